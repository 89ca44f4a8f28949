use Rattle.std.proofs.Common.{◌≡◌, ◌-◌}
use Rattle.resp2_wire.specs.Progress.{stop_of}
use Rattle.resp2_wire.specs.Reading.{words_at}
use Rattle.resp2_wire.proofs.passing.pass_words.Given as goal

abbrev pub invariant-loop : goal.invariant-loop
invariant-loop l = stop_of (words_at (l.count - l.counter) l.rest) ≡ stop_of (words_at l.count l.bytes)
