use Rattle.std.proofs.Common.{◌+◌, ◌≤◌, ◌∙◌, subst, sym}
use Rattle.plan_language.specs.Limits.{limits_of}
use Rattle.plan_language.specs.Lines.{count, line_count}
use Rattle.plan_language.specs.PlanView.{PlanView}
use Rattle.server_phases.proofs.LinesByKind.{kind_room}
use Rattle.server_phases.proofs.told_first.put_kind.Goals as goal

pub push-requires-clause-room : goal.push-requires-clause-room
push-requires-clause-room c =
    let x = c.line-item.result in
    subst (λ (p : PlanView). count (limits_of p.names) p.lines + line_count (limits_of p.names) x
    ≤ (limits_of p.names).commands) (sym c.loop-line.invariant)
    (kind_room c.args.survey.now c.args.told (limits_of c.args.plan.now.names) c.args.plan.now.lines c.args.lines.now
    c.loop-line.line-index x c.loop-line-test.true c.line-item.is (sym c.is_of_kind.ensures ∙ c.if-is_of_kind.true)
    c.requires.room)
