-- One command more in the counts.
use Rattle.std.proofs.Common.{◌≡◌, ℕ, ◌+◌, ◌<◌, ◌^◌, Bool, cond, List, [], ◌∷◌, ◌++◌, get_or, length, take, ap, sym, subst, ◌∙◌, arith}
use Rattle.std.specs.List.{count_by}
use Rattle.std.proofs.lemmas.List.{take_more, length-take}
use Rattle.std.proofs.lemmas.List.Sums.{count_by-le-length, sum_by_push}
use Rattle.plan_language.specs.declared.plan_command.PlanCommand.{PlanCommand}
use Rattle.plan_language.specs.declared.plan_command.PlanCommand.TheVariants.{Importing, Migrating, Drain, SetNode, Stable}
use Rattle.plan_outlines.specs.declared.counts.CommandCounts.{CommandCounts}
use Rattle.plan_changes.specs.Counts.{HasRoom, counted, counts_of, is_drain, is_importing, is_migrating, is_node, is_stable}

abbrev counts : ℕ → ℕ → ℕ → ℕ → ℕ → CommandCounts
counts a b c d e = record { importing = a; migrating = b; drain = c; node = d; stable = e }

alike : (a b c d e v w x y z : ℕ) → a ≡ v → b ≡ w → c ≡ x → d ≡ y → e ≡ z → counts a b c d e ≡ counts v w x y z
alike a b c d e v w x y z p q r s t = λ i. counts (p i) (q i) (r i) (s i) (t i)

pushed : (test : PlanCommand → Bool) (cs : List PlanCommand) (c : PlanCommand) → count_by test (cs ++ c ∷ []) ≡ count_by test cs + cond (test c) 1 0
pushed test cs c = sum_by_push (λ o. cond (test o) 1 0) cs c

same : (m n : ℕ) → m ≡ n + 0 → m ≡ n
same m n e = omega (arith, e)

push : (cs : List PlanCommand) (c : PlanCommand) → counts_of (cs ++ c ∷ []) ≡ counted (counts_of cs) c
push cs (Importing s m at) = let c : PlanCommand = Importing s m at in alike _ _ _ _ _ _ _ _ _ _ (pushed is_importing cs c) (same _ _ (pushed is_migrating cs c)) (same _ _ (pushed is_drain cs c)) (same _ _ (pushed is_node cs c)) (same _ _ (pushed is_stable cs c))
push cs (Migrating s m at) = let c : PlanCommand = Migrating s m at in alike _ _ _ _ _ _ _ _ _ _ (same _ _ (pushed is_importing cs c)) (pushed is_migrating cs c) (same _ _ (pushed is_drain cs c)) (same _ _ (pushed is_node cs c)) (same _ _ (pushed is_stable cs c))
push cs (Drain s m t b) = let c : PlanCommand = Drain s m t b in alike _ _ _ _ _ _ _ _ _ _ (same _ _ (pushed is_importing cs c)) (same _ _ (pushed is_migrating cs c)) (pushed is_drain cs c) (same _ _ (pushed is_node cs c)) (same _ _ (pushed is_stable cs c))
push cs (SetNode s m at) = let c : PlanCommand = SetNode s m at in alike _ _ _ _ _ _ _ _ _ _ (same _ _ (pushed is_importing cs c)) (same _ _ (pushed is_migrating cs c)) (same _ _ (pushed is_drain cs c)) (pushed is_node cs c) (same _ _ (pushed is_stable cs c))
push cs (Stable s at) = let c : PlanCommand = Stable s at in alike _ _ _ _ _ _ _ _ _ _ (same _ _ (pushed is_importing cs c)) (same _ _ (pushed is_migrating cs c)) (same _ _ (pushed is_drain cs c)) (same _ _ (pushed is_node cs c)) (pushed is_stable cs c)

pub count_more : (cs : List PlanCommand) (i : ℕ) (c : PlanCommand) (k new : CommandCounts) → i < length cs → c ≡ get_or cs i c → k ≡ counts_of (take i cs) → new ≡ counted k c → new ≡ counts_of (take (i + 1) cs)
count_more cs i c k new lt at so_far is =
    is ∙ ap (λ j. counted j c) so_far ∙ sym (push (take i cs) c) ∙ ap (λ o. counts_of (take i cs ++ o ∷ [])) at
    ∙ sym (ap counts_of (take_more cs i c lt))

few : (test : PlanCommand → Bool) (cs : List PlanCommand) (i : ℕ) → i < length cs → length cs < 2 ^ 32 → count_by test (take i cs) < 4294967295
few test cs i lt small =
    let most = count_by-le-length test (take i cs) in
    let width = length-take i cs in
    omega (arith, most, width, lt, small)

pub has_room : (cs : List PlanCommand) (i : ℕ) (k : CommandCounts) → i < length cs → length cs < 2 ^ 32 → k ≡ counts_of (take i cs) → HasRoom k
has_room cs i k lt small is =
    subst HasRoom (sym is) (record {
      importing = few is_importing cs i lt small;
      migrating = few is_migrating cs i lt small;
      drain = few is_drain cs i lt small;
      node = few is_node cs i lt small;
      stable = few is_stable cs i lt small;
    })
