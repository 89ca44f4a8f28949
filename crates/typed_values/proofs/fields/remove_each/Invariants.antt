use Rattle.std.proofs.Common.{◌≡◌, take}
use Rattle.typed_values.specs.Fields.{fields_of, fields_without}
use Rattle.typed_values.proofs.fields.remove_each.Given as goal

abbrev pub invariant-loop-name : goal.invariant-loop-name
invariant-loop-name l = fields_of l.map.entries ≡ fields_without (fields_of l.initial.map.entries) (take l.name-index l.names)
