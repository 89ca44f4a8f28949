use Rattle.std.proofs.Common.{◌≡◌, length}
use Rattle.std.specs.Prelude.{vec_len}
use Rattle.cluster_runs.specs.Targets.{AreTargetsEmpty}
use Rattle.server_settling.specs.Asking.{Sends}
use Rattle.cluster_runs.proofs.targets.check_targets.Given as goal

-- the lines before hold none
abbrev pub invariant-loop-left : goal.invariant-loop-left
invariant-loop-left g l = record {
  count : vec_len l.links ≡ vec_len l.fn.links;
  empty : AreTargetsEmpty (Sends (record { gave = g.I.ByteIn.gave; took = g.O.ByteOut.took })) l.survey l.left
      → AreTargetsEmpty (Sends (record { gave = g.I.ByteIn.gave; took = g.O.ByteOut.took })) l.survey l.fn.lines;
}

abbrev pub decreases-loop-left : goal.decreases-loop-left
decreases-loop-left g l = length l.left
