-- The parts of slots, and the owners that they leave.
use Rattle.std.proofs.Common.{◌≡◌, ◌≢◌, ℕ, List, [], ◌∷◌, ◌++◌, length, sym, refl, ap, ◌∙◌, subst, inl, inr}
use Rattle.std.proofs.lemmas.Bool.{cases_eq, cond-true, cond-false, eq-eqb, ne_eqb}
use Rattle.plan_language.specs.declared.plan_command.PlanCommand.{PlanCommand}
use Rattle.plan_language.specs.declared.plan_command.PlanCommand.TheVariants as planned
use Rattle.cluster_admin.specs.Phases.{Phases}
use Rattle.plan_semantics.specs.Plans.{IsFinal, final_owner, first_owner, last_told, part, tell}
use Rattle.plan_semantics.proofs.OwnedMoves.{part-append}
use Rattle.telling_order.specs.AnyOrder.{TellsInAnotherOrder}

-- ---- the part of a slot

pub part_tell : (s t : ℕ) (ns : List ℕ) → part (tell s t ns) s ≡ tell s t ns
part_tell s t [] = refl
part_tell s t (n ∷ ns) = cond-true _ _ _ (eq-eqb s s refl) ∙ ap (λ l. planned.SetNode s t n ∷ l) (part_tell s t ns)

pub part_other : (s q t : ℕ) (ns : List ℕ) → s ≢ q → part (tell s t ns) q ≡ []
part_other s q t [] apart = refl
part_other s q t (n ∷ ns) apart = cond-false _ _ _ (ne_eqb s q apart) ∙ part_other s q t ns apart

pub part_here : (s t : ℕ) (front back : List PlanCommand) (ns : List ℕ)
    → part (front ++ (tell s t ns ++ back)) s ≡ part front s ++ (tell s t ns ++ part back s)
part_here s t front back ns =
    part-append front (tell s t ns ++ back) s
    ∙ ap (λ l. part front s ++ l) (part-append (tell s t ns) back s ∙ ap (λ l. l ++ part back s) (part_tell s t ns))

pub part_there : (s q t : ℕ) (front back : List PlanCommand) (ns : List ℕ) → s ≢ q
    → part (front ++ (tell s t ns ++ back)) q ≡ part front q ++ part back q
part_there s q t front back ns apart =
    part-append front (tell s t ns ++ back) q
    ∙ ap (λ l. part front q ++ l)
    (part-append (tell s t ns) back q ∙ ap (λ l. l ++ part back q) (part_other s q t ns apart))

-- ---- the owner that is told last

last_append : (w : ℕ) (f g : List PlanCommand) → last_told w (f ++ g) ≡ last_told (last_told w f) g
last_append w [] g = refl
last_append w (planned.Importing s m at ∷ f) g = last_append w f g
last_append w (planned.Migrating s m at ∷ f) g = last_append w f g
last_append w (planned.Drain s m t b ∷ f) g = last_append w f g
last_append w (planned.SetNode s m at ∷ f) g = last_append m f g
last_append w (planned.Stable s at ∷ f) g = last_append w f g

last_tell : (s t w : ℕ) (ns : List ℕ) (k : List PlanCommand) → last_told t (tell s t ns ++ k) ≡ last_told t k
last_tell s t w [] k = refl
last_tell s t w (n ∷ ns) k = last_tell s t w ns k

same_last : (s t w : ℕ) (xs ys : List ℕ) (k : List PlanCommand) → length ys ≡ length xs
    → last_told w (tell s t ys ++ k) ≡ last_told w (tell s t xs ++ k)
same_last s t w [] [] k many = refl
same_last s t w (x ∷ xs) (y ∷ ys) k many = last_tell s t w ys k ∙ sym (last_tell s t w xs k)
same_last s t w [] (y ∷ ys) k many = cc
same_last s t w (x ∷ xs) [] k many = cc

pub same_owner : (phases : Phases) (plan other : List PlanCommand) → TellsInAnotherOrder phases plan other → (q : ℕ)
    → final_owner other phases q ≡ final_owner plan phases q
same_owner phases plan other r q = elim (cases_eq r.s q) [
  | inl here ↦ subst (λ z. final_owner other phases z ≡ final_owner plan phases z) here (at_slot r.s refl)
  | inr apart ↦ ap (last_told (first_owner (phases q)))
      (ap (λ l. part l q) r.other_is ∙ part_there r.s q r.target r.front r.back r.nodes' apart
      ∙ sym (ap (λ l. part l q) r.is ∙ part_there r.s q r.target r.front r.back r.nodes apart))
]
  where
    at_slot : (z : ℕ) → z ≡ r.s → final_owner other phases r.s ≡ final_owner plan phases r.s
    at_slot z e =
        let w = first_owner (phases r.s) in
        let f = part r.front r.s in
        let k = part r.back r.s in
        ap (last_told w) (ap (λ l. part l r.s) r.other_is ∙ part_here r.s r.target r.front r.back r.nodes')
        ∙ last_append w f (tell r.s r.target r.nodes' ++ k)
        ∙ same_last r.s r.target (last_told w f) r.nodes r.nodes' k r.reordered.many
        ∙ sym (last_append w f (tell r.s r.target r.nodes ++ k))
        ∙ sym (ap (last_told w) (ap (λ l. part l r.s) r.is ∙ part_here r.s r.target r.front r.back r.nodes))

pub same_final : (phases : Phases) (plan other : List PlanCommand) (final : List ℕ)
    → TellsInAnotherOrder phases plan other → IsFinal plan phases final → IsFinal other phases final
same_final phases plan other final r f =
    record { width = f.width; owner = λ q low. f.owner q low ∙ sym (same_owner phases plan other r q) }
