use Rattle.std.proofs.Common.{◌≡◌, map, take}
use Rattle.command_list.specs.Replies.{info_of}
use Rattle.command_list.proofs.entries.entries_named.Given as goal

abbrev pub invariant-loop-name : goal.invariant-loop-name
invariant-loop-name l = l.entries.items ≡ map info_of (take l.name-index l.names)
