-- What a plan costs in either order.
use Rattle.std.proofs.Common.{◌≡◌, ℕ, ◌+◌, ◌*◌, List, [], ◌∷◌, ◌++◌, length, sym, refl, ap, ◌∙◌, subst, inl, inr, arith}
use Rattle.std.proofs.lemmas.Bool.{cases_eq}
use Rattle.std.specs.Prelude.{slice_index}
use Rattle.cluster_admin.specs.Phases.{Phases}
use Rattle.cluster_world.specs.Worlds.{World}
use Rattle.plan_language.specs.declared.plan_command.PlanCommand.{PlanCommand}
use Rattle.plan_language.specs.declared.plan_command.PlanCommand.TheVariants as planned
use Rattle.plan_semantics.specs.Costs.{Counts, cost, none_passed, one_more, plan_cost, rounds}
use Rattle.reshard_theorem.specs.Counts.{first_count, first_counts}
use Rattle.plan_semantics.specs.Plans.{part, tell}
use Rattle.telling_order.specs.AnyOrder.{TellsInAnotherOrder}
use Rattle.telling_order.proofs.Owners.{part_here, part_there}

cost_tell : (s t : ℕ) (passed : ℕ → ℕ) (counts : Counts) (ns : List ℕ) (k : List PlanCommand)
    → cost passed counts (tell s t ns ++ k) ≡ length ns + cost passed counts k
cost_tell s t passed counts [] k = omega arith
cost_tell s t passed counts (n ∷ ns) k = let rest = cost_tell s t passed counts ns k in omega (arith, rest)

-- what costs the same after some commands costs the same with them
cost_behind : (counts : Counts) (f g h : List PlanCommand)
    → ((passed : ℕ → ℕ) → cost passed counts g ≡ cost passed counts h) → (passed : ℕ → ℕ)
    → cost passed counts (f ++ g) ≡ cost passed counts (f ++ h)
cost_behind counts [] g h same passed = same passed
cost_behind counts (planned.Importing s m at ∷ f) g h same passed =
    ap (λ n. 1 + n) (cost_behind counts f g h same passed)
cost_behind counts (planned.Migrating s m at ∷ f) g h same passed =
    ap (λ n. 1 + n) (cost_behind counts f g h same passed)
cost_behind counts (planned.SetNode s m at ∷ f) g h same passed =
    ap (λ n. 1 + n) (cost_behind counts f g h same passed)
cost_behind counts (planned.Stable s at ∷ f) g h same passed =
    ap (λ n. 1 + n) (cost_behind counts f g h same passed)
cost_behind counts (planned.Drain s m t b ∷ f) g h same passed =
    ap (λ n. (2 * rounds b (slice_index (counts s) (passed s)) + 1) + n)
    (cost_behind counts f g h same (one_more passed s))

pub same_cost : (phases : Phases) (plan other : List PlanCommand) (counts : Counts)
    → TellsInAnotherOrder phases plan other → plan_cost counts other ≡ plan_cost counts plan
same_cost phases plan other counts r =
    ap (plan_cost counts) r.other_is
    ∙ cost_behind counts r.front (tell r.s r.target r.nodes' ++ r.back) (tell r.s r.target r.nodes ++ r.back)
    (λ passed. cost_tell r.s r.target passed counts r.nodes' r.back
    ∙ ap (λ n. n + cost passed counts r.back) r.reordered.many
    ∙ sym (cost_tell r.s r.target passed counts r.nodes r.back))
    none_passed
    ∙ sym (ap (plan_cost counts) r.is)

-- ---- the keys that are counted when the plan begins

tell_first : (w : World) (s t : ℕ) (xs ys : List ℕ) (k : List PlanCommand) → length ys ≡ length xs
    → first_count w (tell s t ys ++ k) ≡ first_count w (tell s t xs ++ k)
tell_first w s t [] [] k many = refl
tell_first w s t (x ∷ xs) (y ∷ ys) k many = refl
tell_first w s t [] (y ∷ ys) k many = cc
tell_first w s t (x ∷ xs) [] k many = cc

first_behind : (w : World) (f g h : List PlanCommand) → first_count w g ≡ first_count w h
    → first_count w (f ++ g) ≡ first_count w (f ++ h)
first_behind w [] g h same = same
first_behind w (planned.Importing s m at ∷ f) g h same = refl
first_behind w (planned.Migrating s m at ∷ f) g h same = refl
first_behind w (planned.Drain s m t b ∷ f) g h same = refl
first_behind w (planned.SetNode s m at ∷ f) g h same = refl
first_behind w (planned.Stable s at ∷ f) g h same = refl

pub same_first : (w : World) (phases : Phases) (plan other : List PlanCommand) → TellsInAnotherOrder phases plan other
    → (q : ℕ) → first_counts w other q ≡ first_counts w plan q
same_first w phases plan other r q = elim (cases_eq r.s q) [
  | inl here ↦ subst (λ z. first_counts w other z ≡ first_counts w plan z) here at_slot
  | inr apart ↦ ap (first_count w)
      (ap (λ l. part l q) r.other_is ∙ part_there r.s q r.target r.front r.back r.nodes' apart
      ∙ sym (ap (λ l. part l q) r.is ∙ part_there r.s q r.target r.front r.back r.nodes apart))
]
  where
    at_slot : first_counts w other r.s ≡ first_counts w plan r.s
    at_slot =
        ap (first_count w) (ap (λ l. part l r.s) r.other_is ∙ part_here r.s r.target r.front r.back r.nodes')
        ∙ first_behind w (part r.front r.s) (tell r.s r.target r.nodes' ++ part r.back r.s)
        (tell r.s r.target r.nodes ++ part r.back r.s)
        (tell_first w r.s r.target r.nodes r.nodes' (part r.back r.s) r.reordered.many)
        ∙ sym (ap (first_count w) (ap (λ l. part l r.s) r.is ∙ part_here r.s r.target r.front r.back r.nodes))
