use Rattle.std.proofs.Common.{◌≡◌, drop, vec_len}
use Rattle.script_lines.proofs.Shapes.{Joined}
use Rattle.script_lines.proofs.named.texts_of.Given as goal

abbrev pub invariant-loop-word : goal.invariant-loop-word
invariant-loop-word l = Joined l.words (drop l.word-index l.words) l.texts.items × (vec_len l.texts ≡ l.word-index)
