use Rattle.std.proofs.Common.{◌≡◌, map, take}
use Rattle.command_list.specs.Replies.{flag_line}
use Rattle.command_list.proofs.entries.flags_reply.Given as goal

abbrev pub invariant-loop-flag : goal.invariant-loop-flag
invariant-loop-flag l = l.texts.items ≡ map flag_line (take l.flag-index l.flags)
