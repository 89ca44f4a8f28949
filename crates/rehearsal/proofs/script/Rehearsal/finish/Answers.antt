use Rattle.rehearsal.proofs.Failing.{end_halts, line_halts}
use Rattle.std.proofs.lemmas.Result.{err_from_is_err_and}
use Rattle.rehearsal.proofs.Halting.{halted_in_last, halted_at_end, halted_by_end}
use Rattle.rehearsal.proofs.Histories.{wholly}
use Rattle.rehearsal.proofs.script.Rehearsal.finish.Goals as goal

pub returns-clause-end : goal.returns-clause-end
returns-clause-end g c = λ input first h.
    wholly g.row.W.Denot g.W.ByteOut.took g.W.ByteOut.failures g.met.W.ByteOut.took_then input first c.args.stage c.in_ok-last.last c.args.self.now c.end_last.new.self c.end.new.self c.write.new.self c.args.writer.now c.write.new.writer
    c.write.result h c.in_ok-last.ensures.ends c.in_ok-end.ensures c.write.ensures.flushed

pub returns-in_err-last-clause-halted : goal.returns-in_err-last-clause-halted
returns-in_err-last-clause-halted g c = λ input first so.
    let h = err_from_is_err_and c.from_residual.result c.from_residual.ensures.1 in
    rw (h.1, h.2) (halted_in_last g.row.W.Denot g.W.ByteOut.took g.W.ByteOut.failures input first c.args.stage c.args.self.now c.end_last.new.self c.args.writer.now c.in_err-last.field-0.0 so c.in_err-last.ensures.ends)

pub returns-clause-halted : goal.returns-clause-halted
returns-clause-halted g c = λ input first so.
    halted_by_end g.row.W.Denot g.W.ByteOut.took g.W.ByteOut.failures g.met.W.ByteOut.took_then input first c.args.stage c.in_ok-last.last c.args.self.now c.end_last.new.self c.end.new.self c.write.new.self c.args.writer.now c.write.new.writer
    c.write.result so c.in_ok-last.ensures.ends c.in_ok-end.ensures c.write.ensures.cut

pub returns-in_err-end-clause-halted : goal.returns-in_err-end-clause-halted
returns-in_err-end-clause-halted g c = λ input first so.
    let h = err_from_is_err_and c.from_residual-in_err-end.result c.from_residual-in_err-end.ensures.1 in
    rw (h.1, h.2) (halted_at_end g.row.W.Denot g.W.ByteOut.took g.W.ByteOut.failures g.met.W.ByteOut.took_then input first c.args.stage c.in_ok-last.last c.args.self.now c.end_last.new.self c.end.new.self c.args.writer.now c.in_err-end.field-0.0
    so c.in_ok-last.ensures.ends c.in_err-end.ensures)

pub returns-in_err-last-clause-failed : goal.returns-in_err-last-clause-failed
returns-in_err-last-clause-failed g c =
    let h = err_from_is_err_and c.from_residual.result c.from_residual.ensures.1 in
    rw (h.1, h.2) (λ e. absurd (line_halts c.args.stage c.args.self.now.pending.items c.in_err-last.field-0.0 c.in_err-last.ensures.ends.0 e))

pub returns-in_err-end-clause-failed : goal.returns-in_err-end-clause-failed
returns-in_err-end-clause-failed g c =
    let h = err_from_is_err_and c.from_residual-in_err-end.result c.from_residual-in_err-end.ensures.1 in
    rw (h.1, h.2) (λ e. absurd (end_halts c.in_ok-last.last c.in_err-end.field-0.0 c.in_err-end.ensures.0 e))
