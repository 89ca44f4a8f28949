use Rattle.std.proofs.Common.{true, arith, rules, sym, subst}
use Rattle.std.specs.Prelude.{IsTrue}
use Rattle.server_phases.proofs.Ordinary.{closed_more}
use Rattle.server_phases.proofs.phases.next_open.Goals as goal

pub loop-number-preserved : goal.loop-number-preserved
loop-number-preserved c =
    let is : IsTrue true = search rules in
    record {
      least = omega (arith, c.loop-number.invariant.least);
      closed = closed_more c.args.survey.now c.args.from c.loop-number.number c.of-slot.result c.loop-number.invariant.closed
          c.of-slot.ensures (c.is_closed.ensures.0 (subst IsTrue (sym c.if-not-is_closed.false) is));
    }
