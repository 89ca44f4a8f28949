use Rattle.std.proofs.Common.{sym, subst, None, []}
use Rattle.plan_semantics.specs.Driving.{Spelled, remaining, whole}
use Rattle.plan_runner.specs.Finishing.{IsOpen}
use Rattle.plan_runner.proofs.Spelling.{done_spelt}
use Rattle.plan_semantics.proofs.Unrolling.{whole_by_spelled}
use Rattle.plan_runner.proofs.laws.plans_that_are_done_were_carried_out.Goals as goal

pub returns-clause-spelled : goal.returns-clause-spelled
returns-clause-spelled c = done_spelt

pub returns-clause-unrolled : goal.returns-clause-unrolled
returns-clause-unrolled c p cs n e g =
    whole_by_spelled p.rest cs (subst (λ l. Spelled (remaining p.rest l) cs (whole [])) e (done_spelt p cs n (subst (IsOpen p.rest) (sym e) tt) g))
