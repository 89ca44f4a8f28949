use Rattle.std.proofs.Common.{refl}
use Rattle.std.proofs.lemmas.Result.{err_from_is_err_and}
use Rattle.rehearsal.proofs.Ending.{end_kept}
use Rattle.rehearsal.proofs.Failing.{may_end_halt}
use Rattle.rehearsal.proofs.script.Rehearsal.end.Goals as goal

pub returns-in_err-finish : goal.returns-in_err-finish
returns-in_err-finish c =
    let h = err_from_is_err_and c.from_residual.result c.from_residual.ensures.1 in
    rw (h.1, h.2) (may_end_halt c.args.last c.clear.new.self c.finish.new.transcript c.in_err-finish.field-0.0 c.in_err-finish.ensures, refl)

pub returns : goal.returns
returns c =
    end_kept c.args.last c.args.self.now c.keep_printed.new.self c.clear.new.self c.finish.new.transcript c.keep_printed.result c.clear.ensures.printed c.clear.ensures.status c.in_ok-finish.ensures
    c.keep_printed.ensures.keeps c.keep_printed.ensures.transcript
