use Rattle.std.proofs.Common.{◌≡◌, ◌++◌, refl}
use Rattle.transcripts.specs.Printing.{line, bulk_text}
use Rattle.transcripts.specs.OutcomeTexts.{key_lines}
use Rattle.transcripts.proofs.OnTranscript.{key_lines-grows}
use Rattle.transcripts.proofs.Printed.{one_printed}
use Rattle.transcripts.proofs.transcript.Transcript.key_lines.Goals as goal

pub loop-key-preserved : goal.loop-key-preserved
loop-key-preserved c =
    let one : c.print_bulk.new.printed.items
    ≡ c.loop-key.self.printed.items ++ line 2 36 (bulk_text c.key-item.result) =
    rw (c.in_ok-print_bulk.ensures, c.get.ensures.value) refl in (
      one_printed
          (λ k. line 2 36 (bulk_text k))
          key_lines
          key_lines-grows
          c.args.keys.now
          c.loop-key.key-index
          c.key-item.result
          c.key-item.result
          c.args.self.now.printed.items
          c.loop-key.self.printed.items
          _
          c.loop-key-test.true
          c.key-item.is
          c.loop-key.invariant.0
          one,
      c.loop-key.invariant.1,
    )
