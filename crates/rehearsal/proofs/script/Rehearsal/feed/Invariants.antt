use Rattle.std.proofs.Common.{◌≡◌, ◌++◌, ℕ, List, length}
use Rattle.rehearsal.specs.Stages.{IsStage}
use Rattle.rehearsal.specs.Scripts.{IsSoFar}
use Rattle.rehearsal.specs.Writing.{output}
use Rattle.rehearsal.proofs.script.Rehearsal.feed.Given as goal

abbrev pub invariant-loop-line : goal.invariant-loop-line
invariant-loop-line g l = IsStage l.stage × ((done : List ℕ) × (l.bytes ≡ done ++ l.rest)
    × ((input : List ℕ) (first : g.row.W.Denot) → IsSoFar (output g.W.ByteOut.took g.W.ByteOut.failures first l.initial.writer) input l.initial.stage l.initial.self → IsSoFar (output g.W.ByteOut.took g.W.ByteOut.failures first l.writer) (input ++ done) l.stage l.self))
    × (g.W.ByteOut.failures l.writer ≡ g.W.ByteOut.failures l.initial.writer)

abbrev pub decreases-loop-line : goal.decreases-loop-line
decreases-loop-line g l = length l.rest
