use Rattle.std.proofs.Common.{take}
use Rattle.command_words.specs.Addresses.{AreWritten}
use Rattle.command_words.proofs.Addressing.{texts}
use Rattle.command_words.proofs.addresses.each_address.Given as goal

abbrev pub invariant-loop-word : goal.invariant-loop-word
invariant-loop-word l = AreWritten (texts (take l.word-index l.words)) l.found.items
