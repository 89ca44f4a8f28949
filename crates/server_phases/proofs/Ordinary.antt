-- A slot has one phase.
use Rattle.std.proofs.Common.{◌≡◌, ℕ, ◌+◌, Bool, true, false, inl, inr, sym, ap, ◌∙◌, subst, arith}
use Rattle.std.proofs.lemmas.Bool.{cases_lt}
use Rattle.std.specs.Prelude.{IsTrue}
use Rattle.cluster_admin.specs.Surveys.{Survey}
use Rattle.server_phases.specs.ServerPhases.{AreClosedBetween, IsClosedAt, IsOrdinary, IsPhaseAt, IsStrange}
use Rattle.server_phases.specs.Strange.{strangeness}
use Rattle.server_phases.specs.declared.server_phase.ServerPhase.{ServerPhase}
use Rattle.server_phases.specs.declared.server_phase.ServerPhase.TheVariants as shown
use Rattle.server_phases.specs.declared.strangeness.Strangeness.{Strangeness}

pub only_ordinary : (v : Survey) (s : ℕ) (p q : ServerPhase) → IsOrdinary v s q
    → ((r : ServerPhase) → IsOrdinary v s r → r ≡ q) → IsPhaseAt v s p → p ≡ q
only_ordinary v s (shown.Strange k) q is only h = absurd (h.0 q is)
only_ordinary v s (shown.Closed o) q is only h = only (shown.Closed o) h
only_ordinary v s (shown.Importing a b) q is only h = only (shown.Importing a b) h
only_ordinary v s (shown.Migrating a b) q is only h = only (shown.Migrating a b) h
only_ordinary v s (shown.Told a b) q is only h = only (shown.Told a b) h

-- the only phase in which it can be is none
pub none_ordinary : (v : Survey) (s : ℕ) (q : ServerPhase) (b : Bool) → (IsOrdinary v s q → IsTrue b) → b ≡ false
    → ((r : ServerPhase) → IsOrdinary v s r → r ≡ q) → IsStrange v s
none_ordinary v s q b test fails only r h =
    let is : IsTrue b = test (subst (IsOrdinary v s) (only r h) h) in
    let f : false ≡ true = sym fails ∙ is in
    absurd cc

pub only_strange : (v : Survey) (s : ℕ) (p : ServerPhase) (k : Strangeness) → IsStrange v s → k ≡ strangeness v s
    → IsPhaseAt v s p → p ≡ shown.Strange k
only_strange v s (shown.Strange j) k none is h = ap (λ x. shown.Strange x) (h.1 ∙ sym is)
only_strange v s (shown.Closed o) k none is h = absurd (none (shown.Closed o) h)
only_strange v s (shown.Importing a b) k none is h = absurd (none (shown.Importing a b) h)
only_strange v s (shown.Migrating a b) k none is h = absurd (none (shown.Migrating a b) h)
only_strange v s (shown.Told a b) k none is h = absurd (none (shown.Told a b) h)

-- one closed slot more
pub closed_more : (v : Survey) (from i slot : ℕ) → AreClosedBetween v from i → slot ≡ i → IsClosedAt v slot
    → AreClosedBetween v from (i + 1)
closed_more v from i slot before same is s least lt = elim (cases_lt s i) [
  | inl less ↦ before s least less
  | inr ge ↦ (let e : slot ≡ s = omega (arith, same, lt, ge) in subst (IsClosedAt v) e is)
]
