use Rattle.std.proofs.Common.{rules, ◌≡◌, List, []}
use Rattle.plan_language.specs.Lines.{plan_commands}
use Rattle.plan_changes.proofs.Loaded.{carried}
use Rattle.plan_changes.proofs.load.PlanLoad.of.Goals as goal

pub returns : goal.returns
returns c =
    carried c.args.keys.now (plan_commands c.args.nodes c.args.plan.lines) c.loop-command.commands.left c.loop-command.load
    (search rules) c.loop-command.invariant
