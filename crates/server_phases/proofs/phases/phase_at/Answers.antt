use Rattle.std.proofs.Common.{true, rules, sym, subst}
use Rattle.std.specs.Prelude.{IsTrue}
use Rattle.server_phases.proofs.Ordinary.{none_ordinary, only_ordinary, only_strange}
use Rattle.server_phases.proofs.phases.phase_at.Goals as goal

pub returns-then-is_in-clause-only : goal.returns-then-is_in-clause-only
returns-then-is_in-clause-only c p h =
    let is : IsTrue true = search rules in
    only_ordinary c.args.survey.now c.args.slot p c.likely_phase-phase.result
    (c.is_in.ensures.0 (subst IsTrue (sym c.if-is_in.true) is)) c.likely_phase-phase.ensures h

pub returns-else-is_in-clause-only : goal.returns-else-is_in-clause-only
returns-else-is_in-clause-only c p h =
    only_strange c.args.survey.now c.args.slot p c.strangeness.result
    (none_ordinary c.args.survey.now c.args.slot c.likely_phase-phase.result c.is_in.result c.is_in.ensures.1
    c.if-is_in.false c.likely_phase-phase.ensures)
    c.strangeness.ensures h
