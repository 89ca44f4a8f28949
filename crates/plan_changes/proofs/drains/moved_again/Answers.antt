use Rattle.std.proofs.Common.{◌≡◌, ◌∙◌, IfOk, ap, subst}
use Rattle.plan_changes.specs.Runs.{runs_from}
use Rattle.plan_changes.proofs.Marked.{again_marks}
use Rattle.plan_changes.proofs.drains.moved_again.Goals as goal

pub returns : goal.returns
returns c =
    let marks = c.as_slice-2.ensures.value ∙ again_marks c.args.commands.now c.in_ok-times.times.items c.as_slice.result.now c.in_ok-marks.marks.items c.as_slice.ensures.value c.in_ok-times.ensures.times c.in_ok-marks.ensures.0 c.in_ok-marks.ensures.1 in
    subst (λ runs. IfOk c.runs_where.result (λ v. v.items ≡ runs)) (ap (runs_from 0) marks) c.runs_where.ensures
