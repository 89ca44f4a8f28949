use Rattle.std.proofs.Common.{take}
use Rattle.transcripts.specs.CallTexts.{key_words}
use Rattle.transcripts.specs.OutcomeTexts.{Prints}
use Rattle.transcripts.proofs.transcript.Transcript.key_words.Given as goal

abbrev pub invariant-loop-key : goal.invariant-loop-key
invariant-loop-key l = Prints l.initial.self l.self (key_words (take l.key-index l.keys)) l.initial.self.status
