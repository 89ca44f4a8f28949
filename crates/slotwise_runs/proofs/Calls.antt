-- The calls of each slot, and what one more call spells of a slot's part.
use Rattle.std.proofs.Common.{◌≡◌, ◌≢◌, ℕ, true, eqb, List, [], ◌∷◌, ◌++◌, Option, Some, None, sym, refl, ap, ◌∙◌, subst, inl, inr}
use Rattle.std.proofs.lemmas.Bool.{eq-eqb, ne_eqb}
use Rattle.cluster_admin.specs.Keys.{Key}
use Rattle.cluster_admin.specs.declared.call.AdminCall.{AdminCall}
use Rattle.plan_language.specs.declared.plan_command.PlanCommand.{PlanCommand}
use Rattle.plan_language.specs.declared.plan_command.PlanCommand.TheVariants as planned
use Rattle.plan_semantics.specs.Driving.{Remaining, SpellsNext, remaining}
use Rattle.reshard_theorem.proofs.Base.{ListedOk}
use Rattle.slotwise_runs.specs.Seen.{of_slot, slot_called}
use Rattle.slotwise_runs.proofs.Fronts.{listed_in_front}
use Rattle.slotwise_runs.proofs.Parts.{AllOf, dropped, kept}

-- ---- calls

pub of_slot-here : (c : AdminCall) (cs : List AdminCall) → of_slot (slot_called c.command) (c ∷ cs) ≡ c ∷ of_slot (slot_called c.command) cs
of_slot-here c cs = kept (eqb (slot_called c.command) (slot_called c.command)) c (of_slot (slot_called c.command) cs) (eq-eqb (slot_called c.command) (slot_called c.command) refl)

pub of_slot-there : (s : ℕ) (c : AdminCall) (cs : List AdminCall) → s ≢ slot_called c.command → of_slot s (c ∷ cs) ≡ of_slot s cs
of_slot-there s c cs apart = dropped (eqb (slot_called c.command) s) c (of_slot s cs) (ne_eqb (slot_called c.command) s (λ e. apart (sym e)))

-- ---- what a call spells

pub spells_front : (xs ys : List PlanCommand) (listed : Option (List Key)) (c : AdminCall) (mid : Remaining)
    → SpellsNext xs listed c mid → SpellsNext (xs ++ ys) listed c (remaining (mid.rest ++ ys) mid.listed)
spells_front [] ys listed c mid h = absurd h
spells_front (planned.Importing s m at ∷ xs) ys None c mid h = (h.0, h.1, ap (λ l. l ++ ys) h.2, h.3)
spells_front (planned.Importing s m at ∷ xs) ys (Some ks) c mid h = absurd h
spells_front (planned.Migrating s m at ∷ xs) ys None c mid h = (h.0, h.1, ap (λ l. l ++ ys) h.2, h.3)
spells_front (planned.Migrating s m at ∷ xs) ys (Some ks) c mid h = absurd h
spells_front (planned.SetNode s m at ∷ xs) ys None c mid h = (h.0, h.1, ap (λ l. l ++ ys) h.2, h.3)
spells_front (planned.SetNode s m at ∷ xs) ys (Some ks) c mid h = absurd h
spells_front (planned.Stable s at ∷ xs) ys None c mid h = (h.0, h.1, ap (λ l. l ++ ys) h.2, h.3)
spells_front (planned.Stable s at ∷ xs) ys (Some ks) c mid h = absurd h
spells_front (planned.Drain s m t b ∷ xs) ys None c mid h = (
  h.0,
  h.1,
  elim h.2 [
    | inl u ↦ inl (u.0, ap (λ l. l ++ ys) u.1, u.2)
    | inr u ↦ inr (u.0, u.1, u.2, ap (λ l. l ++ ys) u.3, u.4)
  ],
)
spells_front (planned.Drain s m t b ∷ xs) ys (Some ks) c mid h = (h.0, h.1, ap (λ l. l ++ ys) h.2, h.3)

-- what is left names the same slot
pub spells_all : (s : ℕ) (xs : List PlanCommand) (listed : Option (List Key)) (c : AdminCall) (mid : Remaining)
    → AllOf s xs → SpellsNext xs listed c mid → AllOf s mid.rest
spells_all s [] listed c mid all h = absurd h
spells_all s (planned.Importing u m at ∷ xs) None c mid all h = subst (AllOf s) (sym h.2) all.1
spells_all s (planned.Importing u m at ∷ xs) (Some ks) c mid all h = absurd h
spells_all s (planned.Migrating u m at ∷ xs) None c mid all h = subst (AllOf s) (sym h.2) all.1
spells_all s (planned.Migrating u m at ∷ xs) (Some ks) c mid all h = absurd h
spells_all s (planned.SetNode u m at ∷ xs) None c mid all h = subst (AllOf s) (sym h.2) all.1
spells_all s (planned.SetNode u m at ∷ xs) (Some ks) c mid all h = absurd h
spells_all s (planned.Stable u at ∷ xs) None c mid all h = subst (AllOf s) (sym h.2) all.1
spells_all s (planned.Stable u at ∷ xs) (Some ks) c mid all h = absurd h
spells_all s (planned.Drain u m t b ∷ xs) None c mid all h = elim h.2 [
  | inl v ↦ subst (AllOf s) (sym v.1) all.1
  | inr v ↦ subst (AllOf s) (sym v.3) all
]
spells_all s (planned.Drain u m t b ∷ xs) (Some ks) c mid all h = subst (AllOf s) (sym h.2) all

no_listing : (mid : Remaining) → mid.listed ≡ None → ListedOk mid.rest mid.listed
no_listing mid e = subst (ListedOk mid.rest) (sym e) tt

-- an open listing is of the slot's own drain
pub spells_listed : (xs ys : List PlanCommand) (listed : Option (List Key)) (c : AdminCall) (mid : Remaining)
    → SpellsNext xs listed c mid → ListedOk (mid.rest ++ ys) mid.listed → ListedOk mid.rest mid.listed
spells_listed [] ys listed c mid h fine = absurd h
spells_listed (planned.Importing s m at ∷ xs) ys None c mid h fine = no_listing mid h.3
spells_listed (planned.Importing s m at ∷ xs) ys (Some ks) c mid h fine = absurd h
spells_listed (planned.Migrating s m at ∷ xs) ys None c mid h fine = no_listing mid h.3
spells_listed (planned.Migrating s m at ∷ xs) ys (Some ks) c mid h fine = absurd h
spells_listed (planned.SetNode s m at ∷ xs) ys None c mid h fine = no_listing mid h.3
spells_listed (planned.SetNode s m at ∷ xs) ys (Some ks) c mid h fine = absurd h
spells_listed (planned.Stable s at ∷ xs) ys None c mid h fine = no_listing mid h.3
spells_listed (planned.Stable s at ∷ xs) ys (Some ks) c mid h fine = absurd h
spells_listed (planned.Drain s m t b ∷ xs) ys None c mid h fine = elim h.2 [
  | inl u ↦ no_listing mid u.2
  | inr u ↦ subst (λ l. ListedOk l mid.listed) (sym u.3)
      (listed_in_front (planned.Drain s m t b) xs ys mid.listed (subst (λ l. ListedOk (l ++ ys) mid.listed) u.3 fine))
]
spells_listed (planned.Drain s m t b ∷ xs) ys (Some ks) c mid h fine = no_listing mid h.3
