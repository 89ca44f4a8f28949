use Rattle.std.proofs.Common.{ℕ, ◌<◌}
use Rattle.server_phases.specs.ServerPhases.{IsToldAt}
use Rattle.server_phases.proofs.phases.are_told.Given as goal

abbrev pub invariant-loop-number : goal.invariant-loop-number
invariant-loop-number l = (n : ℕ) → n < l.number → IsToldAt l.survey l.slot l.source l.target n
