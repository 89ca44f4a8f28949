use Rattle.std.proofs.Common.{◌≤◌, [], arith, sym, subst}
use Rattle.std.proofs.lemmas.Result.{err_from_is_err_and}
use Rattle.std.specs.List.{AllByRecursion}
use Rattle.plan_language.specs.Limits.{limits_of}
use Rattle.plan_language.specs.Lines.{ArePlanLines, FitsVersion}
use Rattle.plan_runner.specs.Standing.{Stands}
use Rattle.plan_runner.specs.Verifying.{IsVerified, TellsRetargets}
use Rattle.plan_runner.proofs.Surveyed.{fault_over, left_over, accepted_over}
use Rattle.plan_runner.proofs.verifier.check_within.Goals as goal

pub returns-in_err-take_all : goal.returns-in_err-take_all
returns-in_err-take_all g c =
    let p = err_from_is_err_and c.from_residual.result c.from_residual.ensures.1 in
    rw (p.1, p.2) (fault_over c.args.survey.now (omega (arith, c.requires.nodes, c.requires.most))
    (subst (λ n. 1 ≤ n) c.nodes.ensures.value c.nodes.ensures.least) c.nodes.ensures.slots c.args.plan.now
    c.version.result c.nodes.result c.lines.result.now c.version.ensures.value c.nodes.ensures.value c.lines.ensures.value
    c.in_err-take_all.field-0.0 (λ phases shows. c.in_err-take_all.ensures phases
    (subst (λ k. Stands c.version.result k phases [] c.in-Ok.check) (sym c.nodes.ensures.value)
    (c.in-Ok.ensures.stands c.version.result phases shows))))

pub returns-in-Some : goal.returns-in-Some
returns-in-Some g c =
    left_over c.args.survey.now (omega (arith, c.requires.nodes, c.requires.most))
    (subst (λ n. 1 ≤ n) c.nodes.ensures.value c.nodes.ensures.least) c.nodes.ensures.slots c.args.plan.now
    c.version.result c.nodes.result c.lines.result.now c.version.ensures.value c.nodes.ensures.value c.lines.ensures.value
    c.take_all.new.self c.in-Some.place (λ phases shows. c.in_ok-take_all.ensures phases
    (subst (λ k. Stands c.version.result k phases [] c.in-Ok.check) (sym c.nodes.ensures.value)
    (c.in-Ok.ensures.stands c.version.result phases shows))) c.in-Some.ensures

pub returns : goal.returns
returns g c =
    subst (λ b. IsVerified c.args.plan.now c.args.survey.now × TellsRetargets c.args.plan.now c.args.survey.now b) (sym c.retargets.ensures)
    (accepted_over c.args.survey.now (omega (arith, c.requires.nodes, c.requires.most))
    (subst (λ n. 1 ≤ n) c.nodes.ensures.value c.nodes.ensures.least) c.nodes.ensures.slots c.args.plan.now
    c.version.result c.nodes.result c.lines.result.now c.version.ensures.value c.nodes.ensures.value c.lines.ensures.value
    c.take_all.new.self c.requires.seen (subst (ArePlanLines (limits_of c.args.plan.now.names)) c.lines.ensures.value c.lines.ensures.well_formed)
    (subst (AllByRecursion (FitsVersion c.args.plan.now.version)) c.lines.ensures.value c.lines.ensures.fit)
    (λ phases shows. c.in_ok-take_all.ensures phases
    (subst (λ k. Stands c.version.result k phases [] c.in-Ok.check) (sym c.nodes.ensures.value)
    (c.in-Ok.ensures.stands c.version.result phases shows))) c.in-None.ensures)
