use Rattle.std.proofs.Common.{◌≡◌, ◌≤◌}
use Rattle.std.specs.Vec.Iter.{into_iter_items, into_iter_len}
use Rattle.indexmap.specs.IndexSet.{spare}
use Rattle.typed_values.specs.Members.{members_of, members_with, AreShortMembers}
use Rattle.typed_values.proofs.members.insert_each.Given as goal

abbrev pub invariant-loop-text : goal.invariant-loop-text
invariant-loop-text l =
    (members_with (members_of l.set.keys) (into_iter_items l.text-iterator) ≡ members_with (members_of l.initial.set.keys) l.fn.texts.items)
    × (into_iter_len l.text-iterator ≤ spare l.set)
    × AreShortMembers (members_of l.set.keys)
