use Rattle.server_phases.specs.Opened.{AreOrdinaryBelow}
use Rattle.server_phases.proofs.opening.strange_slot.Given as goal

-- the slots before are not strange
abbrev pub invariant-loop-number : goal.invariant-loop-number
invariant-loop-number l = AreOrdinaryBelow l.survey l.number
