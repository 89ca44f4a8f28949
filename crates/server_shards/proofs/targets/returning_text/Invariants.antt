use Rattle.std.proofs.Common.{◌≡◌, ◌<◌, ◌⊎◌, ℕ, length}
use Rattle.std.specs.Prelude.{false, vec_len}
use Rattle.server_shards.specs.Returning.{asks_of}
use Rattle.server_shards.specs.Targets.{NoneReturnsTo, is_told}
use Rattle.server_shards.proofs.targets.returning_text.Given as goal

-- to none of the targets before one returns
abbrev pub invariant-loop-number : goal.invariant-loop-number
invariant-loop-number g l = record {
  count : vec_len l.links ≡ length l.book;
  stay : (n : ℕ) → n < l.number → (is_told n l.lines ≡ false)
      ⊎ NoneReturnsTo (asks_of (record { gave = g.I.ByteIn.gave; took = g.O.ByteOut.took })) l.book l.dead n l.left_out;
}
