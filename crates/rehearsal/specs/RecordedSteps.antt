-- What a recorded world is to a plan that runs over it.
use Rattle.std.specs.Prelude.{List}
use Rattle.cluster_world.specs.Recorded.{Recorded}
use Rattle.cluster_world.specs.RecordedPorts.{KeepsAll, by_call}
use Rattle.cluster_admin.specs.declared.call.AdminCall.{AdminCall}
use Rattle.plan_runner.specs.Advancing.{PortState, PortSteps}

-- each call is the next event on the trail; a fault keeps all as it is
abbrev pub recorded_steps : PortSteps Recorded
recorded_steps = record { moves = by_call; fails = KeepsAll }

-- the recorded world, and the calls on the list of its administrator's seat
abbrev pub seated : Recorded → List AdminCall → PortState Recorded
seated r calls = record { port = r; calls = calls }
