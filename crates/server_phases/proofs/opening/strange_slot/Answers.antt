use Rattle.server_phases.proofs.Tables.{ordinary, ordinary_more}
use Rattle.server_phases.proofs.opening.strange_slot.Goals as goal

pub loop-number-preserved : goal.loop-number-preserved
loop-number-preserved c =
    ordinary_more c.args.survey.now c.loop-number.number c.of-slot.result c.loop-number.invariant c.of-slot.ensures
    (c.phase_at.result, ordinary c.args.survey.now c.of-slot.result c.phase_at.result c.phase_at.ensures.is c.in_default.not-Strange)
