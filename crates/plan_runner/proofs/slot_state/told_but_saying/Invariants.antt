use Rattle.std.proofs.Common.{◌≡◌}
use Rattle.cluster_admin.specs.Surveys.{nodes_saying}
use Rattle.plan_runner.specs.SlotStates.{told_but}
use Rattle.plan_runner.proofs.slot_state.told_but_saying.Given as goal

-- of the nodes below this one, those that say so are left out
abbrev pub invariant-loop-number : goal.invariant-loop-number
invariant-loop-number g l = l.told ≡ told_but l.number (nodes_saying l.survey l.slot l.owner)
