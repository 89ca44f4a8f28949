use Rattle.std.proofs.Common.{◌≡◌, take}
use Rattle.std.specs.List.{flat_map}
use Rattle.command_list.specs.Replies.{pages_of}
use Rattle.command_list.proofs.docs.pages_named.Given as goal

abbrev pub invariant-loop-name : goal.invariant-loop-name
invariant-loop-name l = l.pages.items ≡ flat_map pages_of (take l.name-index l.names)
