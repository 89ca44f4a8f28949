use Rattle.plan_drawings.specs.Drawings.{parts}
use Rattle.plan_drawings.proofs.Chains.{five}
use Rattle.plan_drawings.proofs.drawings.put_parts.Goals as goal

pub returns-clause-text : goal.returns-clause-text
unfolding parts
returns-clause-text c =
    five c.put.result c.args.out.now.items c.put_front.new.out.items c.put_bands.new.out.items
    c.put_labels.new.out.items c.put_legend.new.out.items c.put.new.out.items _ _ _ _ _
    c.in_ok-put_front.ensures.text c.in_ok-put_bands.ensures.text c.in_ok-put_labels.ensures.text
    c.in_ok-put_legend.ensures.text c.put.ensures.text
