use Rattle.std.proofs.Common.{◌≡◌, ◌∷◌, ◌++◌, codes, map, drop}
use Rattle.command_words.specs.CommandLine.{texts}
use Rattle.command_words.proofs.command_line.given.Given as goal

abbrev pub invariant-loop-word : goal.invariant-loop-word
invariant-loop-word l = map (λ word. word.now) l.given.items ++ texts (drop l.word-index l.words) ≡ codes "reshard" ∷
    texts l.words
