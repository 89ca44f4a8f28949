use Rattle.plan_drawings.proofs.Chains.{two}
use Rattle.plan_drawings.proofs.frames.put_opening.Goals as goal

pub returns-clause-text : goal.returns-clause-text
returns-clause-text c =
    two c.put_filled.result c.args.out.now.items c.put.new.out.items c.put_filled.new.out.items _ _
    c.in_ok-put.ensures.text c.put_filled.ensures.text
