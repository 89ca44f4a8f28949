use Rattle.std.proofs.Common.{◌≡◌, ◌++◌, length}
use Rattle.resp2_wire.specs.Encoding.{spellings}
use Rattle.resp2_wire.specs.RequestLaws.{bulks}
use Rattle.resp2_wire.proofs.encoding.push_words.Given as goal

abbrev pub decreases-loop-rest : goal.decreases-loop-rest
decreases-loop-rest l = length l.rest

-- what is written, with what is still to come, is the whole
abbrev pub invariant-loop-rest : goal.invariant-loop-rest
invariant-loop-rest l = l.out.items ++ spellings (bulks l.rest) ≡ l.initial.out.items ++ spellings (bulks l.words)
