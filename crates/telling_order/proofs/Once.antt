-- In a legal plan the nodes that one block of commands tells of an owner are distinct.
use Rattle.std.proofs.Common.{◌≡◌, ℕ, false, ◌||◌, List, [], ◌∷◌, ◌++◌, sym, refl, ap, ◌∙◌, subst, inl, inr}
use Rattle.std.proofs.lemmas.Bool.{ne_eqb, or_parts}
use Rattle.plan_language.specs.declared.plan_command.PlanCommand.{PlanCommand}
use Rattle.plan_language.specs.declared.plan_command.PlanCommand.TheVariants as planned
use Rattle.cluster_admin.specs.Phases.{Phase, Phases, IsDistinct, among}
use Rattle.cluster_admin.specs.Phases as phase
use Rattle.plan_semantics.specs.Plans.{AreEnds, AreLegs, IsPart, Leg, Legal, legs_of, part, tell}
use Rattle.plan_semantics.specs.Plans as leg
use Rattle.plan_semantics.proofs.OnePhase.{not_among}
use Rattle.plan_semantics.proofs.OwnedMoves.{among-append}
use Rattle.telling_order.proofs.Blocks.{IsFresh}
use Rattle.telling_order.proofs.Owners.{part_here}
use Rattle.telling_order.proofs.Parts.{legs_fresh}

-- the nodes that are told before anything else is done
abbrev pub told_here : List PlanCommand → List ℕ
told_here [] = []
told_here (planned.Importing s m at ∷ cs) = []
told_here (planned.Migrating s m at ∷ cs) = []
told_here (planned.Drain s m t b ∷ cs) = []
told_here (planned.SetNode s m at ∷ cs) = at ∷ told_here cs
told_here (planned.Stable s at ∷ cs) = []

-- none of them is told twice, at any place
abbrev pub TellsOnce : List PlanCommand → Type 0
TellsOnce [] = Unit {0}
TellsOnce (planned.Importing s m at ∷ cs) = TellsOnce cs
TellsOnce (planned.Migrating s m at ∷ cs) = TellsOnce cs
TellsOnce (planned.Drain s m t b ∷ cs) = TellsOnce cs
TellsOnce (planned.SetNode s m at ∷ cs) = (among at (told_here cs) ≡ false) × TellsOnce cs
TellsOnce (planned.Stable s at ∷ cs) = TellsOnce cs

once_behind : (f g : List PlanCommand) → TellsOnce (f ++ g) → TellsOnce g
once_behind [] g h = h
once_behind (planned.Importing s m at ∷ f) g h = once_behind f g h
once_behind (planned.Migrating s m at ∷ f) g h = once_behind f g h
once_behind (planned.Drain s m t b ∷ f) g h = once_behind f g h
once_behind (planned.SetNode s m at ∷ f) g h = once_behind f g h.1
once_behind (planned.Stable s at ∷ f) g h = once_behind f g h

-- ---- tellings

none_here : (l : List PlanCommand) → IsFresh l → told_here l ≡ []
none_here [] fresh = refl
none_here (planned.Importing s m at ∷ l) fresh = refl
none_here (planned.Migrating s m at ∷ l) fresh = refl
none_here (planned.Drain s m t b ∷ l) fresh = refl
none_here (planned.SetNode s m at ∷ l) fresh = absurd fresh
none_here (planned.Stable s at ∷ l) fresh = refl

told_then : (s t : ℕ) (ns : List ℕ) (l : List PlanCommand) → told_here (tell s t ns ++ l) ≡ ns ++ told_here l
told_then s t [] l = refl
told_then s t (n ∷ ns) l = ap (λ z. n ∷ z) (told_then s t ns l)

told_all : (s t : ℕ) (ns : List ℕ) (l : List PlanCommand) → IsFresh l → told_here (tell s t ns ++ l) ≡ ns
told_all s t [] l fresh = none_here l fresh
told_all s t (n ∷ ns) l fresh = ap (λ z. n ∷ z) (told_all s t ns l fresh)

once_told : (s t : ℕ) (ns : List ℕ) (l : List PlanCommand) → IsDistinct ns → IsFresh l → TellsOnce l
    → TellsOnce (tell s t ns ++ l)
once_told s t [] l d fresh h = h
once_told s t (n ∷ ns) l d fresh h = (
  ap (among n) (told_all s t ns l fresh) ∙ d.0,
  once_told s t ns l d.1 fresh h,
)

told_distinct : (s t : ℕ) (ns : List ℕ) (l : List PlanCommand) → TellsOnce (tell s t ns ++ l) → IsDistinct ns
told_distinct s t [] l h = tt
told_distinct s t (n ∷ ns) l h = (
  (or_parts (among n ns) (among n (told_here l))
      (sym (among-append n ns (told_here l)) ∙ ap (among n) (sym (told_then s t ns l)) ∙ h.0)).0,
  told_distinct s t ns l h.1,
)

-- ---- the parts of slots

module _ (n o t : ℕ) (others : List ℕ) (ends : AreEnds n o t others) where
  source_once : IsDistinct (o ∷ others)
  source_once = (not_among n o t others o ends.each_other (inl refl), ends.distinct)

  target_once : IsDistinct (t ∷ o ∷ others)
  target_once = (
    ap (λ b. b || among t others) (ne_eqb t o (λ h. ends.apart (sym h)))
        ∙ not_among n o t others t ends.each_other (inr refl),
    source_once,
  )

legs_once : (v n s w : ℕ) (legs : List Leg) → AreLegs v n w legs → TellsOnce (legs_of s w legs)
legs_once v n s w [] are = tt
legs_once v n s w (leg.Try t ∷ legs) are = legs_once v n s w legs are.2
legs_once v n s w (leg.Move t b others ∷ legs) are =
    once_told s t (t ∷ w ∷ others) (legs_of s t legs) (target_once n w t others are.1) (legs_fresh s t legs)
    (legs_once v n s t legs are.2)

module _ (v n s : ℕ) (cs : List PlanCommand) where
  -- what closes the slot, and what follows
  closed_once : (p : Phase) (c : IsPart v n s p cs) (closing : List PlanCommand) → c.closing ≡ closing
      → TellsOnce (closing ++ legs_of s c.owner c.legs) → TellsOnce cs
  closed_once p c closing e h = subst TellsOnce (sym (c.is ∙ ap (λ l. l ++ legs_of s c.owner c.legs) e)) h

  legs_told : (p : Phase) (c : IsPart v n s p cs) (t : ℕ) (ns : List ℕ) → IsDistinct ns
      → TellsOnce (tell s t ns ++ legs_of s c.owner c.legs)
  legs_told p c t ns d =
      once_told s t ns (legs_of s c.owner c.legs) d (legs_fresh s c.owner c.legs)
      (legs_once v n s c.owner c.legs c.are)

  part_once : (p : Phase) → IsPart v n s p cs → TellsOnce cs
  part_once (phase.Closed o) c =
      closed_once (phase.Closed o) c [] c.closes.0 (legs_once v n s c.owner c.legs c.are)
  part_once (phase.Importing o t) c = elim c.closes [
    | inl back ↦ closed_once (phase.Importing o t) c (planned.Stable s t ∷ []) back.1
        (legs_once v n s c.owner c.legs c.are)
    | inr move ↦ closed_once (phase.Importing o t) c
        (planned.Migrating s t o ∷ planned.Drain s o t move.0 ∷ tell s t (t ∷ o ∷ move.1)) move.5
        (legs_told (phase.Importing o t) c t (t ∷ o ∷ move.1) (target_once n o t move.1 move.3))
  ]
  part_once (phase.Migrating o t) c =
      let move = c.closes in
      closed_once (phase.Migrating o t) c (planned.Drain s o t move.0 ∷ tell s t (t ∷ o ∷ move.1)) move.5
      (legs_told (phase.Migrating o t) c t (t ∷ o ∷ move.1) (target_once n o t move.1 move.3))
  part_once (phase.TargetTold o t) c =
      let move = c.closes in
      closed_once (phase.TargetTold o t) c (tell s t (o ∷ move.0)) move.3
      (legs_told (phase.TargetTold o t) c t (o ∷ move.0) (source_once n o t move.0 move.1))
  part_once (phase.SourceTold o t left) c =
      let move = c.closes in
      closed_once (phase.SourceTold o t left) c (tell s t move.0) move.4
      (legs_told (phase.SourceTold o t left) c t move.0 move.1)

pub nodes_distinct : (v n : ℕ) (phases : Phases) (plan front back : List PlanCommand) (s t : ℕ) (nodes : List ℕ)
    → plan ≡ front ++ (tell s t nodes ++ back) → Legal v plan phases n → IsDistinct nodes
nodes_distinct v n phases plan front back s t nodes is legal =
    told_distinct s t nodes (part back s)
    (once_behind (part front s) (tell s t nodes ++ part back s)
    (subst TellsOnce (ap (λ l. part l s) is ∙ part_here s t front back nodes)
    (part_once v n s (part plan s) (phases s) (legal s))))
