use Rattle.plan_drawings.proofs.Chains.{five}
use Rattle.plan_drawings.proofs.words.put_naming.Goals as goal

pub returns-clause-text : goal.returns-clause-text
returns-clause-text c =
    five c.put-3.result c.args.out.now.items c.put.new.out.items c.put_summary.new.out.items c.put-2.new.out.items
    c.put_description.new.out.items c.put-3.new.out.items _ _ _ _ _
    c.in_ok-put.ensures.text c.in_ok-put_summary.ensures.text c.in_ok-put-2.ensures.text
    c.in_ok-put_description.ensures.text c.put-3.ensures.text
