use Rattle.std.proofs.Common.{arith, rules}
use Rattle.key_slots.proofs.Row.{EvenStarts, even_all, even_next, even_none}
use Rattle.key_slots.proofs.start_row.even_starts.Goals as goal

pub loop-number-init : goal.loop-number-init
loop-number-init c = (even_none c.args.owning c.in_ok-starts.starts.items c.requires.some c.in_ok-starts.ensures.items, search rules)

pub loop-number-preserved : goal.loop-number-preserved
loop-number-preserved c =
    (even_next c.args.owning c.loop-number.number c.loop-number.starts.items c.push.new.self.items c.requires.some c.requires.most c.loop-number-test.true c.loop-number.invariant.0 (search rules), search rules)

all : (c : goal.After-loop-number) → EvenStarts c.args.owning c.loop-number.starts.items
all c = even_all c.args.owning c.loop-number.number c.loop-number.starts.items c.requires.some (omega arith) c.loop-number.invariant.0

pub returns-clause-longest : goal.returns-clause-longest
returns-clause-longest c = (all c).longest

pub returns-clause-width : goal.returns-clause-width
returns-clause-width c = (all c).width

pub returns-clause-named : goal.returns-clause-named
returns-clause-named c = (all c).named

pub returns-clause-shares : goal.returns-clause-shares
returns-clause-shares c = (all c).shares
