use Rattle.plan_drawings.proofs.Chains.{three}
use Rattle.plan_drawings.proofs.ribbons.put_ribbon_text.Goals as goal

pub returns-clause-text : goal.returns-clause-text
returns-clause-text c =
    three c.put_filled-3.result c.args.out.now.items c.put_filled.new.out.items c.put_filled-2.new.out.items
    c.put_filled-3.new.out.items _ _ _
    c.in_ok-put_filled.ensures.text c.in_ok-put_filled-2.ensures.text c.put_filled-3.ensures.text
