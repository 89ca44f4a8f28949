use Rattle.std.proofs.Common.{◌≡◌, take}
use Rattle.typed_values.specs.Members.{members_of, members_without}
use Rattle.typed_values.proofs.members.remove_each.Given as goal

abbrev pub invariant-loop-text : goal.invariant-loop-text
invariant-loop-text l = members_of l.set.keys ≡ members_without (members_of l.initial.set.keys) (take l.text-index l.texts)
