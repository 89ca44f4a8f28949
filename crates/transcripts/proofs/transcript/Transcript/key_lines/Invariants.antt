use Rattle.std.proofs.Common.{take}
use Rattle.transcripts.specs.OutcomeTexts.{Prints, key_lines}
use Rattle.transcripts.proofs.transcript.Transcript.key_lines.Given as goal

abbrev pub invariant-loop-key : goal.invariant-loop-key
invariant-loop-key l = Prints l.initial.self l.self (key_lines (take l.key-index l.keys)) l.initial.self.status
