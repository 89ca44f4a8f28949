use Rattle.std.proofs.Common.{◌∙◌, ap, subst, sym}
use Rattle.std.specs.List.{AllByRecursion}
use Rattle.plan_language.specs.Limits.{limits_of}
use Rattle.plan_language.specs.Lines.{FitsVersion, IsWithin}
use Rattle.plan_language.specs.PlanView.{PlanView}
use Rattle.server_phases.proofs.LinesByKind.{first_room, put_first, rest_room}
use Rattle.server_phases.proofs.told_first.told_first.Goals as goal

pub put_kind-requires-clause-room : goal.put_kind-requires-clause-room
put_kind-requires-clause-room c =
    first_room c.args.survey.now c.args.rests.now c.in_ok-plan.plan c.lines.result.now c.in_ok-plan.ensures
    c.lines.ensures.well_formed.1

pub put_kind-requires-2-clause-within : goal.put_kind-requires-2-clause-within
put_kind-requires-2-clause-within c =
    subst (λ (x : PlanView). AllByRecursion (IsWithin (limits_of x.names)) c.lines-2.result.now)
    (sym (put_first c.args.survey.now c.args.rests.now c.in_ok-plan.plan c.lines.result.now c.in_ok-plan.ensures
    c.lines.ensures.well_formed.1 c.put_kind.new.plan c.in_ok-put_kind.ensures)) c.lines-2.ensures.well_formed.2

pub put_kind-requires-2-clause-fit : goal.put_kind-requires-2-clause-fit
put_kind-requires-2-clause-fit c =
    subst (λ (x : PlanView). AllByRecursion (FitsVersion x.version) c.lines-2.result.now)
    (sym (put_first c.args.survey.now c.args.rests.now c.in_ok-plan.plan c.lines.result.now c.in_ok-plan.ensures
    c.lines.ensures.well_formed.1 c.put_kind.new.plan c.in_ok-put_kind.ensures)) c.lines-2.ensures.fit

pub put_kind-requires-2-clause-room : goal.put_kind-requires-2-clause-room
put_kind-requires-2-clause-room c =
    rest_room c.args.survey.now c.args.rests.now c.in_ok-plan.plan c.lines.result.now c.in_ok-plan.ensures
    c.lines.ensures.well_formed.1 c.put_kind.new.plan c.lines-2.result.now c.in_ok-put_kind.ensures
    (c.lines.ensures.value ∙ sym c.lines-2.ensures.value)
