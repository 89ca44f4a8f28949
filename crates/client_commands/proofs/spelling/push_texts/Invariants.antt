use Rattle.std.proofs.Common.{◌≡◌, ◌++◌, take}
use Rattle.client_commands.proofs.spelling.push_texts.Given as goal

abbrev pub invariant-loop-text : goal.invariant-loop-text
invariant-loop-text l = l.words ≡ l.initial.words ++ take l.text-index l.texts
