-- One slot more is settled.
use Rattle.std.proofs.Common.{◌≡◌, ◌∙◌, ℕ, zero, suc, ◌+◌, ◌≤◌, List, Result, Ok, Err, refl, sym, ap, subst, add-one, arith}
use Rattle.cluster_admin.specs.Surveys.{Survey}
use Rattle.server_phases.specs.ServerPhases.{IsPhaseAt}
use Rattle.server_phases.specs.declared.server_phase.ServerPhase.{ServerPhase}
use Rattle.server_phases.specs.declared.server_phase.ServerPhase.TheVariants as shown
use Rattle.server_settling.specs.Asking.{Asks}
use Rattle.server_settling.specs.Opened.{SettlesBelow, Treats, none_opened, opened_with}
use Rattle.server_settling.specs.declared.opened.Opened.{Opened}
use Rattle.server_settling.specs.declared.setup.SettleSetup.{SettleSetup}

pub slots_more : (p : ServerPhase) (o : Opened) (n : ℕ) → o.slots ≤ n → (opened_with p o).slots ≤ n + 1
slots_more (shown.Closed a) o n below = omega (arith, below)
slots_more (shown.Importing a b) o n below = omega (arith, below)
slots_more (shown.Migrating a b) o n below = omega (arith, below)
slots_more (shown.Told a b) o n below = omega (arith, below)
slots_more (shown.Strange k) o n below = omega (arith, below)

pub told_more : (p : ServerPhase) (o : Opened) (n : ℕ) → o.told ≤ n → (opened_with p o).told ≤ n + 1
told_more (shown.Closed a) o n below = omega (arith, below)
told_more (shown.Importing a b) o n below = omega (arith, below)
told_more (shown.Migrating a b) o n below = omega (arith, below)
told_more (shown.Told a b) o n below = omega (arith, below)
told_more (shown.Strange k) o n below = omega (arith, below)

module _ {S W : Type 0} (asks : Asks S) (writes : (line : List ℕ) → W → W → Type 0) (x : SettleSetup) (v : Survey) where
  pub settles_none : (l : S) (w : W) → SettlesBelow asks writes x v 0 l w none_opened l w
  unfolding SettlesBelow
  settles_none l w = (refl, refl, refl)

  settles_next : (s : ℕ) (l : S) (w : W) (before : Opened) (mid : S) (written : W) (p : ServerPhase) (o : Opened) (l' : S) (w' : W)
      → SettlesBelow asks writes x v s l w before mid written → IsPhaseAt v s p → Treats asks writes x s p mid written (Ok tt) l' w'
      → o ≡ opened_with p before → SettlesBelow asks writes x v (suc s) l w o l' w'
  unfolding SettlesBelow
  settles_next s l w before mid written p o l' w' below is treats counted = (before, p, mid, written, below, is, treats, counted)

  pub settles_more : (s slot : ℕ) (l : S) (w : W) (before : Opened) (mid : S) (written : W) (p : ServerPhase) (o : Opened) (l' : S) (w' : W)
      → slot ≡ s → SettlesBelow asks writes x v s l w before mid written → IsPhaseAt v slot p
      → Treats asks writes x slot p mid written (Ok tt) l' w' → o ≡ opened_with p before
      → SettlesBelow asks writes x v (s + 1) l w o l' w'
  settles_more s slot l w before mid written p o l' w' same below is treats counted =
      subst (λ (n : ℕ). SettlesBelow asks writes x v n l w o l' w') (sym (add-one s))
      (settles_next s l w before mid written p o l' w' below (subst (λ (n : ℕ). IsPhaseAt v n p) same is)
      (subst (λ (n : ℕ). Treats asks writes x n p mid written (Ok tt) l' w') same treats) counted)
