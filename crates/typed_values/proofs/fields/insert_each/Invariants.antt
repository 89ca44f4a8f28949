use Rattle.std.proofs.Common.{◌≡◌, ◌≤◌}
use Rattle.std.specs.Vec.Iter.{into_iter_items, into_iter_len}
use Rattle.indexmap.specs.IndexMap.{spare}
use Rattle.typed_values.specs.Fields.{fields_of, fields_with, AreShortFields}
use Rattle.typed_values.proofs.fields.insert_each.Given as goal

abbrev pub invariant-loop-name : goal.invariant-loop-name
invariant-loop-name l =
    (fields_with (fields_of l.map.entries) (into_iter_items l.name-iterator) ≡ fields_with (fields_of l.initial.map.entries) l.fn.pairs.items)
    × (into_iter_len l.name-iterator ≤ spare l.map)
    × AreShortFields (fields_of l.map.entries)
