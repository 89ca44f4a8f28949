use Rattle.plan_drawings.proofs.Chains.{four}
use Rattle.plan_drawings.proofs.now_drawings.put_now_front.Goals as goal

pub returns-clause-text : goal.returns-clause-text
returns-clause-text c =
    four c.put_now_heading.result c.args.out.now.items c.put_opening.new.out.items c.put_now_naming.new.out.items
    c.put_colours.new.out.items c.put_now_heading.new.out.items _ _ _ _
    c.in_ok-put_opening.ensures.text c.in_ok-put_now_naming.ensures.text c.in_ok-put_colours.ensures.text
    c.put_now_heading.ensures.text
