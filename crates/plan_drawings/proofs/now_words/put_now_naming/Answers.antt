use Rattle.plan_drawings.proofs.Chains.{five}
use Rattle.plan_drawings.proofs.now_words.put_now_naming.Goals as goal

pub returns-clause-text : goal.returns-clause-text
returns-clause-text c =
    five c.put-3.result c.args.out.now.items c.put.new.out.items c.put_now_summary.new.out.items c.put-2.new.out.items
    c.put_now_description.new.out.items c.put-3.new.out.items _ _ _ _ _
    c.in_ok-put.ensures.text c.in_ok-put_now_summary.ensures.text c.in_ok-put-2.ensures.text
    c.in_ok-put_now_description.ensures.text c.put-3.ensures.text
