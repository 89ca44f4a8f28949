use Rattle.std.proofs.Common.{◌∙◌, ap}
use Rattle.plan_language.specs.PlanView.{PlanView}
use Rattle.server_phases.specs.ToldFirst.{told_first}
use Rattle.server_phases.proofs.resuming.rests.Goals as goal

pub told_first-requires : goal.told_first-requires
told_first-requires c =
    let phases = c.in-Ok.ensures.phases in
    record {
      version = ap (λ (p : PlanView). p.version) (c.in-Ok.ensures.exact.1 (λ s. (phases s).0) (λ s. (phases s).1));
    }

pub returns-in_ok-told_first-in-Ok : goal.returns-in_ok-told_first-in-Ok
returns-in_ok-told_first-in-Ok c =
    let phases = c.in-Ok.ensures.phases in
    let is = c.in_ok-told_first-in-Ok.ensures in
    let whole = c.in-Ok.ensures.exact.1 (λ s. (phases s).0) (λ s. (phases s).1) in
    record {
      open_slots = phases;
      version = ap (λ (p : PlanView). p.version) is ∙ ap (λ (p : PlanView). p.version) whole;
      names = ap (λ (p : PlanView). p.names) is ∙ ap (λ (p : PlanView). p.names) whole;
      lines = λ q shows. ap (λ (p : PlanView). p.lines) is
          ∙ ap (λ (p : PlanView). told_first c.args.survey.now p.lines) (c.in-Ok.ensures.exact.1 q shows);
    }
