use Rattle.std.proofs.Common.{◌++◌, ap}
use Rattle.std.proofs.lemmas.Result.{err_from_is_err_and}
use Rattle.rehearsal.proofs.Ending.{line_kept}
use Rattle.rehearsal.proofs.Failing.{may_halt}
use Rattle.rehearsal.proofs.script.Rehearsal.end_line.Goals as goal

pub returns-in_err-played-clause-ends : goal.returns-in_err-played-clause-ends
returns-in_err-played-clause-ends c =
    let h = err_from_is_err_and c.from_residual.result c.from_residual.ensures.1 in
    let line = c.args.self.now.pending.items ++ c.args.end.now in
    let played = c.in_err-played.ensures in
    rw (h.1, h.2) (may_halt c.args.stage line c.clear.new.self c.play_whole.new.self.transcript c.in_err-played.field-0.0 played.plays, ap (λ v. v.items) played.waiting, played.line)

pub returns-clause-ends : goal.returns-clause-ends
returns-clause-ends c =
    let played = c.in_ok-played.ensures in
    line_kept c.args.stage c.in_ok-played.played (c.args.self.now.pending.items ++ c.args.end.now) c.args.self.now c.play_whole.new.self c.next_line-turned.new.self c.clear.new.self c.next_line-turned.result c.beside.result
    c.clear.ensures.printed c.clear.ensures.status played.plays (ap (λ v. v.items) played.waiting) played.line c.next_line-turned.ensures.turns c.next_line-turned.ensures.transcript c.beside.ensures
