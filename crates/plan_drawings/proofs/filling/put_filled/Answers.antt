use Rattle.std.proofs.Common.{◌++◌}
use Rattle.plan_drawings.specs.Filling.{filled}
use Rattle.plan_drawings.proofs.Filled.{all_put}
use Rattle.plan_drawings.proofs.filling.put_filled.Goals as goal

pub returns-clause-text : goal.returns-clause-text
returns-clause-text c =
    all_put (c.args.out.now.items ++ filled c.args.template.now c.args.numbers.now) c.loop-rest.out.items
    c.loop-rest.rest.now c.loop-rest.left.now c.in_default.len_below c.loop-rest.invariant.text
