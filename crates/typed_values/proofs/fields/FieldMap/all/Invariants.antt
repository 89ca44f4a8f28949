use Rattle.std.proofs.Common.{◌≡◌, take}
use Rattle.typed_values.specs.Fields.{names_and_values}
use Rattle.typed_values.proofs.fields.FieldMap.all.Given as goal

abbrev pub invariant-loop-place : goal.invariant-loop-place
invariant-loop-place l = l.copies.items ≡ names_and_values (take l.place l.self)
