use Rattle.std.proofs.Common.{◌≡◌, ◌+◌, ◌<◌, ℕ}
use Rattle.std.specs.Prelude.{vec_len}
use Rattle.cluster_runs.specs.Targets.{IsTargetEmpty}
use Rattle.server_settling.specs.Asking.{Sends}
use Rattle.cluster_runs.proofs.targets.check_slots.Given as goal

-- the slots before hold none
abbrev pub invariant-loop-number : goal.invariant-loop-number
invariant-loop-number g l = record {
  count : vec_len l.links ≡ vec_len l.fn.links;
  empty : (s : ℕ) → l.fn.slots.0 < s + 1 → s < l.number
      → IsTargetEmpty (Sends (record { gave = g.I.ByteIn.gave; took = g.O.ByteOut.took })) l.survey l.ends.0 l.ends.1 s;
}
