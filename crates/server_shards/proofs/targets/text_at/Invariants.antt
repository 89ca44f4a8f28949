use Rattle.std.proofs.Common.{◌≡◌, ◌<◌, ℕ, length}
use Rattle.std.specs.Prelude.{vec_len}
use Rattle.server_commands.specs.Servers.{server_at}
use Rattle.server_shards.specs.Returning.{asks_of}
use Rattle.server_shards.specs.Targets.{StaysAway}
use Rattle.server_shards.proofs.targets.text_at.Given as goal

-- those before stay away
abbrev pub invariant-loop-place : goal.invariant-loop-place
invariant-loop-place g l = record {
  count : vec_len l.links ≡ length l.book;
  stay : (i : ℕ) → i < l.place
      → StaysAway (asks_of (record { gave = g.I.ByteIn.gave; took = g.O.ByteOut.took })) l.book l.dead l.node
      (server_at l.left_out i);
}
