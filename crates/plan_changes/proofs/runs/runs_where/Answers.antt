use Rattle.std.proofs.Common.{rules}
use Rattle.plan_changes.proofs.Marked.{runs_none}
use Rattle.plan_changes.proofs.runs.runs_where.Goals as goal

pub loop-number-init : goal.loop-number-init
loop-number-init c = runs_none c.args.marks.now 16384 c.new-later.result.items (search rules) c.new-later.ensures.items
