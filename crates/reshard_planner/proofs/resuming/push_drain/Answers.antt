use Rattle.std.proofs.Common.{◌∷◌, []}
use Rattle.plan_language.specs.declared.plan_command.PlanCommand.TheVariants as planned
use Rattle.reshard_planner.proofs.Rests.{on_ok_then, room_one, width_added}
use Rattle.reshard_planner.proofs.resuming.push_drain.Goals as goal

pub returns-clause-width : goal.returns-clause-width
returns-clause-width c = on_ok_then c.push.result _ _ c.push.ensures.ok (λ a. width_added c.args.plan.now c.push.new.self
    (planned.Drain c.args.slot c.args.source c.args.target c.args.batch ∷ []) a)

pub returns-clause-room : goal.returns-clause-room
returns-clause-room c = on_ok_then c.push.result _ _ c.push.ensures.ok (λ a. room_one c.args.plan.now c.push.new.self
    (planned.Drain c.args.slot c.args.source c.args.target c.args.batch) a c.requires.room)
