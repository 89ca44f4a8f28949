-- The marks of all slots.
use Rattle.std.proofs.Common.{◌≡◌, ℕ, ◌<◌, ◌≤◌, Bool, false, ◌&&◌, List, [], drop, eqb, get_or, leb, length, min}
use Rattle.std.proofs.Common.{reverse, ap, sym, ◌∙◌, arith}
use Rattle.std.proofs.lemmas.Bool.Decides.{nat_tests}
use Rattle.std.proofs.lemmas.List.{drop_all}
use Rattle.std.proofs.lemmas.List.FromFn.{fill_by_all}
use Rattle.plan_language.specs.declared.plan_command.PlanCommand.{PlanCommand}
use Rattle.plan_outlines.specs.declared.ranges.SlotRun.{SlotRun}
use Rattle.plan_changes.specs.Drains.{drain_count, is_moved_again, is_moved_back}
use Rattle.plan_changes.specs.Finals.{owners_after}
use Rattle.plan_changes.specs.Runs.{marks_of, runs_from}

pub runs_none : (marks : List Bool) (n : ℕ) (later : List SlotRun) → length marks ≤ n → later ≡ []
    → reverse later ≡ runs_from n (drop n marks)
runs_none marks n later past none = ap reverse none ∙ sym (ap (runs_from n) (drop_all n marks past))

pub are_marks : (test : ℕ → Bool) (marks : List Bool) → length marks ≡ 16384
    → ((k : ℕ) → k < 16384 → get_or marks k false ≡ test k) → marks ≡ marks_of test
unfolding marks_of
are_marks test marks long is = fill_by_all test marks 16384 false long is

twice : (d : ℕ) → leb 2 (min d 2) ≡ leb 2 d
twice d = grind (arith, nat_tests)

once : (d : ℕ) → leb 1 (min d 2) ≡ leb 1 d
once d = grind (arith, nat_tests)

pub again_marks : (plan : List PlanCommand) (times read : List ℕ) (marks : List Bool) → read ≡ times
    → ((s : ℕ) → s < 16384 → get_or times s 0 ≡ min (drain_count plan s) 2) → length marks ≡ 16384
    → ((k : ℕ) → k < 16384 → get_or marks k false ≡ leb 2 (get_or read k 0)) → marks ≡ marks_of (is_moved_again plan)
again_marks plan times read marks same counts long is =
    are_marks (is_moved_again plan) marks long
    (λ k lt. is k lt ∙ ap (λ t. leb 2 (get_or t k 0)) same ∙ ap (leb 2) (counts k lt) ∙ twice (drain_count plan k))

pub back_marks : (plan : List PlanCommand) (before after times read : List ℕ) (marks : List Bool)
    → after ≡ owners_after plan before → read ≡ times
    → ((s : ℕ) → s < 16384 → get_or times s 0 ≡ min (drain_count plan s) 2) → length marks ≡ 16384
    → ((k : ℕ)
    → k < 16384 → get_or marks k false ≡ (leb 1 (get_or read k 0) && eqb (get_or after k 0) (get_or before k 0)))
    → marks ≡ marks_of (is_moved_back plan before)
back_marks plan before after times read marks final same counts long is =
    are_marks (is_moved_back plan before) marks long
    (λ k lt.
    is k lt
    ∙ ap (λ b. b && eqb (get_or after k 0) (get_or before k 0))
    (ap (λ t. leb 1 (get_or t k 0)) same ∙ ap (leb 1) (counts k lt) ∙ once (drain_count plan k))
    ∙ ap (λ os. leb 1 (drain_count plan k) && eqb (get_or os k 0) (get_or before k 0)) final)
