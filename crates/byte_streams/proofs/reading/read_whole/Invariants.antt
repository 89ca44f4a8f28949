use Rattle.std.proofs.Common.{◌≡◌}
use Rattle.byte_streams.proofs.reading.read_whole.Given as goal

abbrev pub invariant-loop : goal.invariant-loop
invariant-loop g l = g.R.ByteIn.gave l.initial.reader l.counter l.text.items l.reader
    × (g.R.ByteIn.ends l.reader ≡ g.R.ByteIn.ends l.initial.reader)
    × (g.R.ByteIn.failures l.reader ≡ g.R.ByteIn.failures l.initial.reader)
