use Rattle.std.proofs.Common.{◌≡◌, ◌++◌, length, Ok}
use Rattle.script_lines.specs.Faults.{after}
use Rattle.script_lines.specs.Words.{unescape}
use Rattle.script_lines.proofs.words.unescape.Given as goal

abbrev pub invariant-loop-byte : goal.invariant-loop-byte
invariant-loop-byte l = after (unescape l.rest) (λ t. Ok (l.bytes.items ++ t)) ≡ unescape l.word

abbrev pub decreases-loop-byte : goal.decreases-loop-byte
decreases-loop-byte l = length l.rest
