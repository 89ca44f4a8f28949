use Rattle.std.proofs.lemmas.Result.{err_from_is_err_and}
use Rattle.server_phases.proofs.Moved.{not_resumed, resumed}
use Rattle.server_phases.proofs.resuming.resumed_plan.Goals as goal

pub returns-in_err-put_lines : goal.returns-in_err-put_lines
returns-in_err-put_lines c =
    let r = c.from_residual-in_err-put_lines in
    let p = err_from_is_err_and r.result r.ensures.1 in
    rw (p.1, p.2) (not_resumed c.args.survey.now c.args.batch c.args.moves.now c.in_ok-plan.plan
    c.in_err-put_lines.field-0.0 c.in_ok-plan.ensures c.in_err-put_lines.ensures)

pub returns : goal.returns
returns c =
    resumed c.args.survey.now c.args.batch c.args.moves.now c.in_ok-plan.plan c.put_lines.new.plan c.in_ok-plan.ensures
    c.in_ok-put_lines.ensures
