use Rattle.std.proofs.Common.{◌<◌, ◌-◌, length}
use Rattle.resp2_wire.specs.Progress.{Follows, words_of}
use Rattle.resp2_wire.proofs.progress.Progress.read_on.Given as goal

abbrev pub invariant-loop-self : goal.invariant-loop-self
invariant-loop-self l = Follows l.self l.bytes × (0 < l.self.count)

abbrev pub decreases-loop-self : goal.decreases-loop-self
decreases-loop-self l = l.self.count - length (words_of l.self)
