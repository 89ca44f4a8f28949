use Rattle.std.proofs.Common.{sym}
use Rattle.server_phases.specs.declared.server_phase.ServerPhase.TheVariants as shown
use Rattle.server_phases.proofs.phases.is_closed.Goals as goal

pub returns-in_default : goal.returns-in_default
returns-in_default c = (
  (λ f. absurd cc),
  (λ u. absurd (c.in_default.not-Closed u.0 (sym (c.phase_at.ensures.only (shown.Closed u.0) u.1)))),
)
