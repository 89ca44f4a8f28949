use Rattle.std.proofs.Common.{refl, [], ◌++◌, ◌+◌, ◌∙◌, sym, take, drop, length, arith}
use Rattle.std.proofs.lemmas.List.{append-nil}
use Rattle.std.proofs.Common.{inl}
use Rattle.std.proofs.lemmas.Result.{err_from_is_err_and}
use Rattle.script_lines.specs.declared.fault.Halt.TheVariants.{Memory, Failed}
use Rattle.rehearsal.specs.declared.stage.Stage.TheVariants.{NoClusterYet}
use Rattle.rehearsal.specs.Writing.{output}
use Rattle.rehearsal.proofs.Halting.{halted_before, halts_by, has_written, no_fault_memory, no_fault_failed}
use Rattle.rehearsal.proofs.Histories.{filled, rehearsed, started}
use Rattle.rehearsal.proofs.script.Rehearsal.play.Goals as goal

pub loop-init : goal.loop-init
loop-init g c =
    (tt, ([], g.met.R.ByteIn.gave_none c.args.reader.now, started g.row.W.Denot g.W.ByteOut.took g.W.ByteOut.failures c.args.self.now c.args.writer.now c.requires (g.met.W.ByteOut.took_none c.args.writer.now), refl), refl, refl, c.requires.0)

pub loop-preserved : goal.loop-preserved
loop-preserved g c =
    let i = c.loop.invariant.1 in
    let piece = take c.in-Ok.count c.read.new.buffer in
    let same = filled c.loop.buffer.len c.read.new.buffer (drop (length c.read.new.buffer) c.loop.buffer.items) c.as_slice.result.now c.as_slice.ensures.value (c.read.auto.buffer ∙ c.as_mut_slice.ensures.len) in (
      c.in_ok-stage-in-Ok.ensures.kept,
      (
        i.0 ++ piece,
        g.met.R.ByteIn.gave_then c.args.reader.now c.loop.reader c.read.new.self c.loop.counter 1 i.0 piece i.1 c.in-Ok.ensures.gave,
        (rw same at (c.in_ok-stage-in-Ok.ensures.goes i.0 c.args.writer.now i.2)),
        c.in-Ok.ensures.goes_on (omega (arith, c.in-Ok.count-test)) ∙ i.3,
      ),
      c.in-Ok.ensures.ok ∙ c.loop.invariant.2,
      c.in_ok-stage-in-Ok.ensures.unfailed ∙ c.loop.invariant.3,
      c.in_ok-stage-in-Ok.ensures.written,
    )

pub returns-in-Ok-eq0-clause-whole : goal.returns-in-Ok-eq0-clause-whole
returns-in-Ok-eq0-clause-whole g c =
    let i = c.loop.invariant.1 in
    let read = c.in-Ok-eq0.ensures in
    let none = rw c.in-Ok-eq0.field-0-test at read.gave in
    let given = g.met.R.ByteIn.gave_then c.args.reader.now c.loop.reader c.read.new.self c.loop.counter 1 i.0 [] i.1 none in
    rehearsed (record { gave = g.R.ByteIn.gave; ends = g.R.ByteIn.ends; failures = g.R.ByteIn.failures; before = c.args.reader.now; after = c.read.new.self })
    (output g.W.ByteOut.took g.W.ByteOut.failures c.args.writer.now c.finish.new.writer) c.finish.new.self.transcript.status (c.loop.counter + 1) i.0 c.finish.result
    (rw (append-nil i.0) at given) (λ same. read.end c.in-Ok-eq0.field-0-test (same ∙ sym i.3)) (c.finish.ensures.end i.0 c.args.writer.now i.2)

pub returns-in_err-buffer-clause-halted : goal.returns-in_err-buffer-clause-halted
returns-in_err-buffer-clause-halted g c =
    let h = err_from_is_err_and c.from_residual.result c.from_residual.ensures.1 in
    let x = c.args.self.now in
    let w = c.args.writer.now in
    let took = g.W.ByteOut.took in
    rw (h.1, h.2) (0, [], g.met.R.ByteIn.gave_none c.args.reader.now, inl (halted_before g.row.W.Denot took g.W.ByteOut.failures [] w NoClusterYet x x w [] Memory (started g.row.W.Denot took g.W.ByteOut.failures x w c.requires (g.met.W.ByteOut.took_none w)) no_fault_memory refl))

pub returns-in-Ok-eq0-clause-halted : goal.returns-in-Ok-eq0-clause-halted
returns-in-Ok-eq0-clause-halted g c =
    let i = c.loop.invariant.1 in
    let none = rw c.in-Ok-eq0.field-0-test at c.in-Ok-eq0.ensures.gave in
    let given = g.met.R.ByteIn.gave_then c.args.reader.now c.loop.reader c.read.new.self c.loop.counter 1 i.0 [] i.1 none in
    halts_by (record { gave = g.R.ByteIn.gave; ends = g.R.ByteIn.ends; failures = g.R.ByteIn.failures; before = c.args.reader.now; after = c.read.new.self })
    (output g.W.ByteOut.took g.W.ByteOut.failures c.args.writer.now c.finish.new.writer) c.finish.new.self (c.loop.counter + 1) i.0 c.finish.result (rw (append-nil i.0) at given)
    (c.finish.ensures.halted i.0 c.args.writer.now i.2)

pub returns-in_err-stage-in-Ok-clause-halted : goal.returns-in_err-stage-in-Ok-clause-halted
returns-in_err-stage-in-Ok-clause-halted g c =
    let i = c.loop.invariant.1 in
    let piece = take c.in-Ok.count c.read.new.buffer in
    let same = filled c.loop.buffer.len c.read.new.buffer (drop (length c.read.new.buffer) c.loop.buffer.items) c.as_slice.result.now c.as_slice.ensures.value (c.read.auto.buffer ∙ c.as_mut_slice.ensures.len) in
    let h = err_from_is_err_and c.from_residual-in_err-stage-in-Ok.result c.from_residual-in_err-stage-in-Ok.ensures.1 in
    let given = g.met.R.ByteIn.gave_then c.args.reader.now c.loop.reader c.read.new.self c.loop.counter 1 i.0 piece i.1 c.in-Ok.ensures.gave in
    rw (h.1, h.2) (c.loop.counter + 1, i.0 ++ piece, given, inl (rw same at (c.in_err-stage-in-Ok.ensures.halted i.0 c.args.writer.now i.2)))

pub returns-in-Err-clause-halted : goal.returns-in-Err-clause-halted
returns-in-Err-clause-halted g c =
    let i = c.loop.invariant.1 in
    let given = g.met.R.ByteIn.gave_then c.args.reader.now c.loop.reader c.read.new.self c.loop.counter 1 i.0 [] i.1 c.in-Err.ensures.failed.1 in
    let halted = halted_before g.row.W.Denot g.W.ByteOut.took g.W.ByteOut.failures i.0 c.args.writer.now c.loop.stage c.loop.self c.loop.self c.loop.writer [] Failed i.2 no_fault_failed refl in
    (c.loop.counter + 1, i.0, rw (append-nil i.0) at given, inl (rw (append-nil i.0) at halted))

pub returns-in-Err-clause-unread : goal.returns-in-Err-clause-unread
returns-in-Err-clause-unread g c = λ differs.
    let i = c.loop.invariant.1 in
    let given = g.met.R.ByteIn.gave_then c.args.reader.now c.loop.reader c.read.new.self c.loop.counter 1 i.0 [] i.1 c.in-Err.ensures.failed.1 in (
      refl,
      has_written (record { gave = g.R.ByteIn.gave; ends = g.R.ByteIn.ends; failures = g.R.ByteIn.failures; before = c.args.reader.now; after = c.read.new.self })
          (output g.W.ByteOut.took g.W.ByteOut.failures c.args.writer.now c.loop.writer) c.loop.stage c.loop.self (c.loop.counter + 1) i.0 (rw (append-nil i.0) at given) i.2 c.loop.invariant.4,
    )
