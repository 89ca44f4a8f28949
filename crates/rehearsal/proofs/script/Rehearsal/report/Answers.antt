use Rattle.std.proofs.Common.{◌++◌, inl, refl}
use Rattle.std.proofs.lemmas.Result.{err_from_is_err_and}
use Rattle.script_lines.specs.declared.fault.Halt.TheVariants.{Fault, Memory}
use Rattle.rehearsal.specs.Scripts.{halt_text}
use Rattle.rehearsal.proofs.Halted.{cut_before, both_written}
use Rattle.rehearsal.proofs.script.Rehearsal.report.Goals as goal

pub returns-in_err-write-in-Fault : goal.returns-in_err-write-in-Fault
returns-in_err-write-in-Fault g c =
    let printed = c.args.self.now.waiting.items in
    let reported = halt_text c.args.self.now.line (Fault c.in-Fault.fault) in
    let h = err_from_is_err_and c.from_residual.result c.from_residual.ensures.1 in
    (printed ++ reported, rw c.in-Fault.is (reported, inl refl, refl), rw (h.1, h.2) (cut_before _ g.W.ByteOut.took g.W.ByteOut.failures _ _ printed reported c.in_err-write-in-Fault.field-0.0 c.in_err-write-in-Fault.ensures.cut))

pub returns-in_err-write-in-Memory : goal.returns-in_err-write-in-Memory
returns-in_err-write-in-Memory g c =
    let printed = c.args.self.now.waiting.items in
    let reported = halt_text c.args.self.now.line Memory in
    let h = err_from_is_err_and c.from_residual-in_err-write-in-Memory.result c.from_residual-in_err-write-in-Memory.ensures.1 in
    (printed ++ reported, rw c.in-Memory.is refl, rw (h.1, h.2) (cut_before _ g.W.ByteOut.took g.W.ByteOut.failures _ _ printed reported c.in_err-write-in-Memory.field-0.0 c.in_err-write-in-Memory.ensures.cut))

pub returns-in_ok-write-in-Fault : goal.returns-in_ok-write-in-Fault
returns-in_ok-write-in-Fault g c =
    let printed = c.args.self.now.waiting.items in
    let t = c.report_fault.ensures in
    let w = c.in_ok-write-in-Fault.ensures in
    (printed ++ t.0, rw c.in-Fault.is (t.0, rw w.line at t.1, refl), both_written _ g.W.ByteOut.took g.W.ByteOut.failures g.met.W.ByteOut.took_then _ _ _ printed t.0 c.report_fault.result w.flushed.0 w.unfailed t.2)

pub returns-in_ok-write-in-Memory : goal.returns-in_ok-write-in-Memory
returns-in_ok-write-in-Memory g c =
    let printed = c.args.self.now.waiting.items in
    let reported = halt_text c.args.self.now.line Memory in
    let w = c.in_ok-write-in-Memory.ensures in
    (printed ++ reported, rw c.in-Memory.is refl, both_written _ g.W.ByteOut.took g.W.ByteOut.failures g.met.W.ByteOut.took_then _ _ _ printed reported c.put.result w.flushed.0 w.unfailed c.put.ensures.wrote)
