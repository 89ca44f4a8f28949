-- A slot that is closed at a node is so by its phase; and what holds of slots up to one.
use Rattle.std.proofs.Common.{◌≡◌, ◌∙◌, ◌+◌, ◌<◌, ℕ, inl, inr, ap, arith, subst, sym}
use Rattle.std.proofs.lemmas.Bool.{cases_lt}
use Rattle.cluster_admin.specs.Surveys.{Survey}
use Rattle.server_phases.specs.ServerPhases.{IsPhaseAt}
use Rattle.server_phases.specs.declared.server_phase.ServerPhase.{ServerPhase}
use Rattle.server_phases.specs.declared.server_phase.ServerPhase.TheVariants as shown

abbrev first_end : ServerPhase → ℕ
first_end (shown.Closed o) = o
first_end (shown.Importing a b) = a
first_end (shown.Migrating a b) = a
first_end (shown.Told a b) = a
first_end (shown.Strange k) = 0

pub closed_by : (v : Survey) (s node owner : ℕ) (p : ServerPhase) → p ≡ shown.Closed owner
    → ((q : ServerPhase) → IsPhaseAt v s q → q ≡ p) → IsPhaseAt v s (shown.Closed node) → owner ≡ node
closed_by v s node owner p is only h = sym (ap first_end (only (shown.Closed node) h ∙ is))

pub not_closed : (v : Survey) (s node : ℕ) (p : ServerPhase) → ((o : ℕ) → p ≡ shown.Closed o → ⊥)
    → ((q : ServerPhase) → IsPhaseAt v s q → q ≡ p) → IsPhaseAt v s (shown.Closed node) → ⊥
not_closed v s node p apart only h = apart node (sym (only (shown.Closed node) h))

-- what holds of the slots before this one, and of it
pub one_more : (P : ℕ → Type 0) (first k slot : ℕ) → ((s : ℕ) → first < s + 1 → s < k → P s) → slot ≡ k → P slot
    → (s : ℕ) → first < s + 1 → s < k + 1 → P s
one_more P first k slot before same is s from lt = elim (cases_lt s k) [
  | inl less ↦ before s from less
  | inr ge ↦ (let e : slot ≡ s = omega (arith, same, lt, ge) in subst P e is)
]
