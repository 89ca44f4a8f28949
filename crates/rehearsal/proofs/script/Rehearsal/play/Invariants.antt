use Rattle.std.proofs.Common.{◌≡◌, ℕ, List, []}
use Rattle.rehearsal.specs.Scripts.{IsSoFar}
use Rattle.rehearsal.specs.Writing.{output}
use Rattle.rehearsal.specs.Stages.{IsStage}
use Rattle.rehearsal.proofs.script.Rehearsal.play.Given as goal

abbrev pub invariant-loop : goal.invariant-loop
invariant-loop g l = IsStage l.stage × ((input : List ℕ)
    × g.R.ByteIn.gave l.initial.reader l.counter input l.reader
    × IsSoFar (output g.W.ByteOut.took g.W.ByteOut.failures l.initial.writer l.writer) input l.stage l.self
    × (g.R.ByteIn.ends l.reader ≡ g.R.ByteIn.ends l.initial.reader))
    × (g.R.ByteIn.failures l.reader ≡ g.R.ByteIn.failures l.initial.reader)
    × (g.W.ByteOut.failures l.writer ≡ g.W.ByteOut.failures l.initial.writer)
    × (l.self.waiting.items ≡ [])
