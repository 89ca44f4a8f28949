use Rattle.std.proofs.Common.{◌≡◌, List, ℕ, [], arith, inl, inr, refl}
use Rattle.rehearsal.specs.HaltTexts.{IsWrittenAtHalt}
use Rattle.rehearsal.proofs.Halting.{one_of, still_written}
use Rattle.rehearsal.proofs.script.rehearse.Goals as goal

pub returns-in-Ok-clause-partly : goal.returns-in-Ok-clause-partly
returns-in-Ok-clause-partly g c = λ e. inl (c.play.new.self.transcript.status, (λ z. grind (arith, c.from.ensures, e, z)), c.in-Ok.ensures.whole)

pub returns-clause-partly : goal.returns-clause-partly
returns-clause-partly g c = λ e.
    let t = c.report-written.ensures in
    inr (c.in-Err.halt, c.play.new.self, c.play.new.writer, c.in-Err.ensures.halted, c.in-Err.ensures.failed, (t.0, t.1, one_of c.report-written.result t.2))

pub returns-clause-unread : goal.returns-clause-unread
returns-clause-unread g c = λ differs.
    let u = c.in-Err.ensures.unread differs in
    let t = c.report-written.ensures in
    let none : t.0 ≡ [] = rw u.0 at t.1 in (
      refl,
      still_written (record { gave = g.R.ByteIn.gave; ends = g.R.ByteIn.ends; failures = g.R.ByteIn.failures; before = c.args.reader.now; after = c.play.new.reader }) g.W.ByteOut.took g.W.ByteOut.failures g.met.W.ByteOut.took_then c.args.writer.now c.play.new.writer c.report-written.new.writer t.0 u.1 none
          (one_of c.report-written.result t.2),
    )
