use Rattle.std.proofs.Common.{◌≡◌, ℕ, zero, suc, get_or, refl}
use Rattle.std.specs.Prelude.{replicate}
use Rattle.reshard_planner.proofs.held.nothing.Goals as goal

-- whatever the place
zero_at : (n node : ℕ) → ◌≡◌ {A = ℕ} (get_or (replicate n 0) node 0) 0
zero_at zero node = refl
zero_at (suc n) zero = refl
zero_at (suc n) (suc node) = zero_at n node

pub returns-clause-width : goal.returns-clause-width
returns-clause-width c = refl

pub returns-clause-none : goal.returns-clause-none
returns-clause-none c = zero_at 255
