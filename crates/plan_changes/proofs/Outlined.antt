-- What is put together for the commands that were read is the outline of the plan.
use Rattle.std.proofs.Common.{◌≡◌, ℕ, IfOk, List, [], Option, Result, Ok, Err, unwrap_or, ap, sym, subst, ◌∙◌}
use Rattle.cluster_admin.specs.Phases.{closed_by}
use Rattle.plan_language.specs.declared.plan_command.PlanCommand.{PlanCommand}
use Rattle.plan_semantics.specs.Plans.{Legal}
use Rattle.plan_outlines.specs.declared.counts.KeyLoad.{KeyLoad}
use Rattle.plan_outlines.specs.declared.outline.PlanOutline.{PlanOutline}
use Rattle.plan_changes.specs.Outlines.{IsOutline, load_by}

-- what the outline of the commands is, for each version in which they are legal, and where so many keys are known
abbrev IsOf : (n : ℕ) (plan : List PlanCommand) (owners keys : List ℕ) (load : Option KeyLoad) → PlanOutline → Type 0
IsOf n plan owners keys load o =
    (version : ℕ) (known : Option (List ℕ)) → Legal version plan (closed_by owners) n → keys ≡ unwrap_or known []
    → load ≡ load_by known plan → IsOutline n plan owners known o

-- f gives the plan's commands among n nodes
module _ (version m n : ℕ) (f : ℕ → List PlanCommand) (known : Option (List ℕ)) (keys : List ℕ) (load : Option KeyLoad)
    (read commands : List PlanCommand) (first before owners : List ℕ) (same : m ≡ n)
    (legal : Legal version (f n) (closed_by owners) n) (r : read ≡ commands) (is : commands ≡ f m) (fb : first ≡ before)
    (bo : before ≡ owners) (k : keys ≡ unwrap_or known []) (l : load ≡ load_by known (f m)) where
  legal_there : Legal version read (closed_by first) m
  legal_there =
      subst (Legal version read (closed_by first)) (sym same)
      (subst (λ cs. Legal version cs (closed_by first) n) (sym (r ∙ is ∙ ap f same))
      (subst (λ os. Legal version (f n) (closed_by os) n) (sym (fb ∙ bo)) legal))

  outline_is : (o : PlanOutline) → IsOf m read first keys load o → IsOutline n (f n) owners known o
  outline_is o h =
      subst (λ j. IsOutline j (f n) owners known o) same
      (subst (λ cs. IsOutline m cs owners known o) (r ∙ is ∙ ap f same)
      (subst (λ os. IsOutline m read os known o) (fb ∙ bo)
      (h version known legal_there k (l ∙ ap (load_by known) (sym (r ∙ is))))))

  pub outlined : {E : Type 0} (result : Result PlanOutline E) → IfOk result (IsOf m read first keys load)
      → IfOk result (IsOutline n (f n) owners known)
  outlined (Ok o) h = outline_is o h
  outlined (Err e) h = h
