use Rattle.plan_drawings.specs.Now.{now_parts}
use Rattle.plan_drawings.proofs.Chains.{five}
use Rattle.plan_drawings.proofs.now_drawings.put_now_parts.Goals as goal

pub returns-clause-text : goal.returns-clause-text
unfolding now_parts
returns-clause-text c =
    five c.put.result c.args.out.now.items c.put_now_front.new.out.items c.put_now_bands.new.out.items
    c.put_now_labels.new.out.items c.put_open_list.new.out.items c.put.new.out.items _ _ _ _ _
    c.in_ok-put_now_front.ensures.text c.in_ok-put_now_bands.ensures.text c.in_ok-put_now_labels.ensures.text
    c.in_ok-put_open_list.ensures.text c.put.ensures.text
