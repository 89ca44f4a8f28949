use Rattle.std.proofs.Common.{length, arith, subst}
use Rattle.server_phases.proofs.Successive.{Gathered, gathered_more, gathered_none}
use Rattle.server_phases.proofs.stranded.put_stranded_lines.Goals as goal

pub loop-number-init : goal.loop-number-init
loop-number-init g c =
    gathered_none g.C.KeyCounts.counts c.args.survey.now (length c.args.survey.now.rows) c.args.counts.now
    c.args.out.now.items

pub loop-number-preserved : goal.loop-number-preserved
loop-number-preserved g c =
    gathered_more g.C.KeyCounts.counts c.args.survey.now (length c.args.survey.now.rows) c.loop-number.number c.of.result
    c.args.counts.now c.args.out.now.items c.loop-number.counts c.put_slot.new.counts c.loop-number.out.items
    c.put_slot.new.out.items c.loop-number.invariant (omega arith) c.of.ensures c.in_ok-put_slot.ensures

pub returns : goal.returns
returns g c =
    subst (λ k. Gathered g.C.KeyCounts.counts c.args.survey.now (length c.args.survey.now.rows) k c.args.counts.now
    c.args.out.now.items c.loop-number.counts c.loop-number.out.items) (omega arith) c.loop-number.invariant
