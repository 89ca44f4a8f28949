use Rattle.std.proofs.Common.{◌∷◌, ◌∙◌}
use Rattle.transcripts.specs.CallTexts.{key_word, key_words}
use Rattle.transcripts.proofs.OnTranscript.{key_words-grows}
use Rattle.transcripts.proofs.Printed.{one_printed}
use Rattle.transcripts.proofs.transcript.Transcript.key_words.Goals as goal

pub loop-key-preserved : goal.loop-key-preserved
loop-key-preserved c =
    let done = rw c.get.ensures.value at c.in_ok-key_word.ensures in (
      one_printed
          (λ k. 32 ∷ key_word k)
          key_words
          key_words-grows
          c.args.keys.now
          c.loop-key.key-index
          c.key-item.result
          c.key-item.result
          c.args.self.now.printed.items
          c.loop-key.self.printed.items
          _
          c.loop-key-test.true
          c.key-item.is
          c.loop-key.invariant.0
          done.0,
      done.1 ∙ c.loop-key.invariant.1,
    )
