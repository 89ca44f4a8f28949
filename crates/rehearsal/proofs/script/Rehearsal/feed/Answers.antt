use Rattle.rehearsal.proofs.Failing.{stopped_beside}
use Rattle.std.proofs.Common.{ap, sym, ◌∙◌, ◌++◌, ◌∷◌, [], append_assoc, rules}
use Rattle.std.proofs.lemmas.Result.{err_from_is_err_and}
use Rattle.rehearsal.proofs.Halting.{flushed_beside, halted_beside}
use Rattle.rehearsal.proofs.Histories.{kept_beside, step_on}
use Rattle.rehearsal.proofs.script.Rehearsal.feed.Goals as goal

pub loop-line-preserved : goal.loop-line-preserved
loop-line-preserved g c =
    let i = c.loop-line.invariant.1 in
    let line = c.in-Some.line.now in
    let piece = line ++ 10 ∷ [] in (
      c.in_ok-stage.ensures.kept,
      (
        i.0 ++ piece,
        i.1 ∙ ap (λ t. i.0 ++ t) c.in-Some.ensures.line.1 ∙ step_on i.0 line c.in-Some.tail.now,
        λ input first h.
            rw (append_assoc input i.0 piece) at (c.in_ok-stage.ensures.goes (input ++ i.0) first (i.2 input first h)),
      ),
      c.in_ok-stage.ensures.unfailed ∙ c.loop-line.invariant.2,
    )

pub returns-clause-goes : goal.returns-clause-goes
returns-clause-goes g c = λ input first h.
    let i = c.loop-line.invariant.1 in
    let rest = c.loop-line.rest.now in
    rw (append_assoc input i.0 rest ∙ ap (λ t. input ++ t) (sym i.1)) at (kept_beside g.row.W.Denot g.W.ByteOut.took g.W.ByteOut.failures g.met.W.ByteOut.took_then (input ++ i.0) first c.loop-line.stage c.loop-line.self c.keep-kept.new.self c.loop-line.writer c.keep-kept.new.writer rest
    c.keep-kept.result c.beside.result (i.2 input first h) (search rules) c.keep-kept.ensures.flushed c.keep-kept.ensures.pending c.beside.ensures)

pub returns-in_err-stage-clause-halted : goal.returns-in_err-stage-clause-halted
returns-in_err-stage-clause-halted g c = λ input first so.
    let i = c.loop-line.invariant.1 in
    let line = c.in-Some.line.now in
    let tail = c.in-Some.tail.now in
    let h = err_from_is_err_and c.from_residual.result c.from_residual.ensures.1 in
    rw (h.1, h.2) (rw (append_assoc input i.0 (line ++ 10 ∷ tail) ∙ ap (λ t. input ++ t) (ap (λ t. i.0 ++ t) (sym c.in-Some.ensures.line.1) ∙ sym i.1)) at (c.in_err-stage.ensures.halted (input ++ i.0) tail first (i.2 input first so)))

pub returns-clause-halted : goal.returns-clause-halted
returns-clause-halted g c = λ input first so.
    let i = c.loop-line.invariant.1 in
    let rest = c.loop-line.rest.now in
    rw (append_assoc input i.0 rest ∙ ap (λ t. input ++ t) (sym i.1)) at (halted_beside g.row.W.Denot g.W.ByteOut.took g.W.ByteOut.failures g.met.W.ByteOut.took_then (input ++ i.0) first c.loop-line.stage c.loop-line.self
    c.keep-kept.new.self c.loop-line.writer c.keep-kept.new.writer rest c.keep-kept.result c.beside.result (i.2 input first so) c.keep-kept.ensures.stopped c.beside.ensures)

pub returns-in_err-stage-clause-failed : goal.returns-in_err-stage-clause-failed
returns-in_err-stage-clause-failed g c =
    let h = err_from_is_err_and c.from_residual.result c.from_residual.ensures.1 in
    rw (h.1, h.2) (λ e same. c.in_err-stage.ensures.failed e (same ∙ sym c.loop-line.invariant.2))

pub returns-clause-failed : goal.returns-clause-failed
returns-clause-failed g c =
    stopped_beside g.W.ByteOut.took g.W.ByteOut.failures c.loop-line.self c.keep-kept.new.self c.loop-line.stage c.args.writer.now c.loop-line.writer c.keep-kept.new.writer c.keep-kept.result c.beside.result c.loop-line.invariant.2
    c.keep-kept.ensures.stopped c.beside.ensures

pub returns-clause-written : goal.returns-clause-written
returns-clause-written g c =
    flushed_beside g.W.ByteOut.took g.W.ByteOut.failures c.loop-line.self c.keep-kept.new.self c.loop-line.stage c.loop-line.writer c.keep-kept.new.writer c.keep-kept.result c.beside.result c.keep-kept.ensures.flushed
    c.beside.ensures
