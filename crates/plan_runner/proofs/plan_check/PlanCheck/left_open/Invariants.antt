use Rattle.std.proofs.Common.{◌≡◌, ◌<◌, ℕ, false}
use Rattle.plan_runner.specs.SlotStates.{is_open}
use Rattle.plan_runner.specs.Standing.{slot_at}
use Rattle.plan_runner.proofs.plan_check.PlanCheck.left_open.Given as goal

abbrev pub invariant-loop-number : goal.invariant-loop-number
invariant-loop-number g l = (s : ℕ) → s < l.number → is_open (slot_at l.self.slots s).state ≡ false
