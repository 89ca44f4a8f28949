use Rattle.rehearsal.proofs.Failing.{cut_beside, line_halts}
use Rattle.std.proofs.Common.{ap, ◌++◌, ◌∷◌, [], refl}
use Rattle.std.proofs.lemmas.Result.{err_from_is_err_and}
use Rattle.rehearsal.proofs.Halting.{halted_in_line, written_beside_halts, behind_step}
use Rattle.rehearsal.proofs.Histories.{line_played, written_beside}
use Rattle.rehearsal.proofs.script.Rehearsal.step.Goals as goal

pub returns-then-len-lt-WAITING_BYTES-clause-goes : goal.returns-then-len-lt-WAITING_BYTES-clause-goes
returns-then-len-lt-WAITING_BYTES-clause-goes g c = λ input first h.
    line_played g.row.W.Denot g.W.ByteOut.took g.W.ByteOut.failures input first c.args.stage c.in_ok-played.played c.args.self.now c.end_line.new.self c.args.writer.now c.args.end.now h c.requires.line
    c.in_ok-played.ensures.ends

pub returns-clause-goes : goal.returns-clause-goes
returns-clause-goes g c = λ input first h.
    let took = g.W.ByteOut.took in
    let played = line_played g.row.W.Denot took g.W.ByteOut.failures input first c.args.stage c.in_ok-played.played c.args.self.now c.end_line.new.self c.args.writer.now c.args.end.now h c.requires.line c.in_ok-played.ensures.ends in
    written_beside g.row.W.Denot took g.W.ByteOut.failures g.met.W.ByteOut.took_then (input ++ (c.args.end.now ++ 10 ∷ [])) first c.in_ok-played.played c.end_line.new.self c.write-written.new.self c.args.writer.now c.write-written.new.writer
    c.write-written.result c.beside.result played c.write-written.ensures.flushed (ap (λ v. v.items) c.write-written.ensures.pending) c.beside.ensures

pub returns-in_err-played-clause-halted : goal.returns-in_err-played-clause-halted
returns-in_err-played-clause-halted g c = λ input tail first so.
    let h = err_from_is_err_and c.from_residual.result c.from_residual.ensures.1 in
    rw (h.1, h.2) (halted_in_line g.row.W.Denot g.W.ByteOut.took g.W.ByteOut.failures input first c.args.stage c.args.self.now c.end_line.new.self c.args.writer.now c.args.end.now (10 ∷ tail) c.in_err-played.field-0.0 so c.requires.line refl
    c.in_err-played.ensures.ends)

pub returns-clause-halted : goal.returns-clause-halted
returns-clause-halted g c = λ input tail first so.
    let took = g.W.ByteOut.took in
    let end = c.args.end.now in
    let played = line_played g.row.W.Denot took g.W.ByteOut.failures input first c.args.stage c.in_ok-played.played c.args.self.now c.end_line.new.self c.args.writer.now end so c.requires.line c.in_ok-played.ensures.ends in
    rw (behind_step input end tail) at (written_beside_halts g.row.W.Denot took g.W.ByteOut.failures g.met.W.ByteOut.took_then (input ++ (end ++ 10 ∷ [])) first c.in_ok-played.played c.end_line.new.self c.write-written.new.self
    c.args.writer.now c.write-written.new.writer tail c.write-written.result c.beside.result played c.write-written.ensures.cut c.beside.ensures)

pub returns-in_err-played-clause-failed : goal.returns-in_err-played-clause-failed
returns-in_err-played-clause-failed g c =
    let h = err_from_is_err_and c.from_residual.result c.from_residual.ensures.1 in
    rw (h.1, h.2) (λ e. absurd (line_halts c.args.stage (c.args.self.now.pending.items ++ c.args.end.now) c.in_err-played.field-0.0 c.in_err-played.ensures.ends.0 e))

pub returns-clause-failed : goal.returns-clause-failed
returns-clause-failed g c = cut_beside g.W.ByteOut.took g.W.ByteOut.failures c.end_line.new.self.waiting.items c.in_ok-played.played c.args.writer.now c.write-written.new.writer c.write-written.result c.beside.result c.write-written.ensures.cut c.beside.ensures
