use Rattle.std.proofs.Common.{◌∙◌, arith}
use Rattle.cluster_runs.specs.Targets.{IsTargetEmpty}
use Rattle.server_settling.specs.Asking.{Sends}
use Rattle.cluster_runs.proofs.Closed.{one_more}
use Rattle.cluster_runs.proofs.targets.check_slots.Goals as goal

pub loop-number-preserved : goal.loop-number-preserved
loop-number-preserved g c =
    let ends = c.args.ends.now in
    record {
      count = c.in_ok-check_target.ensures.count ∙ c.loop-number.invariant.count;
      empty = one_more
          (IsTargetEmpty (Sends (record { gave = g.I.ByteIn.gave; took = g.O.ByteOut.took })) c.args.survey.now ends.0 ends.1)
          c.args.slots.0 c.loop-number.number c.of.result c.loop-number.invariant.empty c.of.ensures
          c.in_ok-check_target.ensures.empty;
    }

pub returns-clause-empty : goal.returns-clause-empty
returns-clause-empty g c s from lt =
    c.loop-number.invariant.empty s from
    (omega (arith, lt, c.loop-number-test.false, c.get-number-end.ensures.value))
