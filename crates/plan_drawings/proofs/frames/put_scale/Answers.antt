use Rattle.plan_drawings.proofs.Chains.{four}
use Rattle.plan_drawings.proofs.frames.put_scale.Goals as goal

pub returns-clause-text : goal.returns-clause-text
returns-clause-text c =
    four c.put-3.result c.args.out.now.items c.put_filled.new.out.items c.put.new.out.items c.put-2.new.out.items
    c.put-3.new.out.items _ _ _ _
    c.in_ok-put_filled.ensures.text c.in_ok-put.ensures.text c.in_ok-put-2.ensures.text c.put-3.ensures.text
