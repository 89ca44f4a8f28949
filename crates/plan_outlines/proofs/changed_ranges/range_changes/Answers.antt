use Rattle.std.proofs.Common.{arith, rules}
use Rattle.plan_outlines.proofs.FromLast.{all_ranges, last_alone}
use Rattle.plan_outlines.proofs.changed_ranges.range_changes.Goals as goal

pub loop-place-init : goal.loop-place-init
loop-place-init c =
    last_alone c.args.before.now c.args.after.now 16383 c.one_slot-first.result c.new-later.result.items c.requires.before c.requires.after c.new-later.ensures.items c.one_slot-first.ensures

pub returns : goal.returns
returns c =
    all_ranges c.args.before.now c.args.after.now c.loop-place.place c.loop-place.first c.loop-place.later.items c.push.new.self.items c.reverse.new.self.items
    (omega arith) c.loop-place.invariant (search rules) c.reverse.ensures.items
