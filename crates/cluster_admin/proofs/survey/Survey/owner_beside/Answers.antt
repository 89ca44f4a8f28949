use Rattle.std.proofs.Common.{arith}
use Rattle.cluster_admin.proofs.survey.Survey.owner_beside.Goals as goal

pub returns : goal.returns
returns c n h = c.loop-number.invariant n (omega (arith, h, c.nodes-number-end.ensures.value, c.loop-number-test.false))
