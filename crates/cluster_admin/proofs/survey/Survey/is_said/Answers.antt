use Rattle.std.proofs.Common.{arith, rules}
use Rattle.cluster_admin.proofs.survey.Survey.is_said.Goals as goal

pub returns : goal.returns
returns c = (
  (λ h. search rules),
  (λ u. absurd (c.loop-number.invariant u.0 (omega (arith, u.1, c.nodes-number-end.ensures.value, c.loop-number-test.false)) u.2)),
)
