-- A slot has one first state.
use Rattle.std.proofs.Common.{◌≡◌, ℕ, Option, ap}
use Rattle.cluster_admin.specs.Phases.{Phase, Closed, Importing, Migrating, TargetTold, SourceTold, HasPhase}
use Rattle.plan_runner.specs.declared.slot_state.SlotState.TheVariants as state
use Rattle.plan_runner.specs.SlotStates.{first_state}
use Rattle.plan_runner.proofs.ToldBut.{same_but}
use Rattle.plan_semantics.proofs.OnePhase.{SamePhase, one_phase}

first_same : (n : ℕ) (p q : Phase) → SamePhase p q → first_state n p ≡ first_state n q
first_same n (Closed o) (Closed o') h = ap state.Untouched h
first_same n (Importing s t) (Importing s' t') h = λ i. state.Importing (h.0 i) (h.1 i)
first_same n (Migrating s t) (Migrating s' t') h = λ i. state.Migrating (h.0 i) (h.1 i)
first_same n (TargetTold s t) (TargetTold s' t') h = λ i. state.TargetTold (h.0 i) (h.1 i)
first_same n (SourceTold s t left) (SourceTold s' t' left') h =
    λ i. state.SourceTold (h.0 i) (h.1 i) (same_but n left left' h.2 i)
first_same n p q h = absurd h

pub one_first : (n : ℕ) (own : ℕ → ℕ) (goes comes : ℕ → Option ℕ) (p q : Phase) → HasPhase n own goes comes p
    → HasPhase n own goes comes q → first_state n p ≡ first_state n q
one_first n own goes comes p q a b = first_same n p q (one_phase n own goes comes p q a b)
