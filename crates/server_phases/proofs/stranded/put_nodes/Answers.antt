use Rattle.std.proofs.Common.{arith, subst}
use Rattle.server_phases.specs.Stranded.{IsNodeText}
use Rattle.server_phases.proofs.Successive.{AreBehind, more_behind, none_behind}
use Rattle.server_phases.proofs.stranded.put_nodes.Goals as goal

pub loop-number-init : goal.loop-number-init
loop-number-init g c =
    none_behind (IsNodeText g.C.KeyCounts.counts c.args.slot c.args.owner) c.args.counts.now c.args.out.now.items

pub loop-number-preserved : goal.loop-number-preserved
loop-number-preserved g c =
    more_behind (IsNodeText g.C.KeyCounts.counts c.args.slot c.args.owner) c.loop-number.number c.of.result
    c.args.counts.now c.args.out.now.items c.loop-number.counts c.put_at.new.counts c.loop-number.out.items
    c.put_at.new.out.items c.loop-number.invariant c.of.ensures c.in_ok-put_at.ensures

pub returns : goal.returns
returns g c =
    subst (λ k. AreBehind (IsNodeText g.C.KeyCounts.counts c.args.slot c.args.owner) k c.args.counts.now
    c.args.out.now.items c.loop-number.counts c.loop-number.out.items) (omega arith) c.loop-number.invariant
