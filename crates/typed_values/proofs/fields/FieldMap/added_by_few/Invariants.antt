use Rattle.std.proofs.Common.{◌≡◌, ◌+◌, ◌≤◌, length, take}
use Rattle.typed_values.specs.Fields.{fields_with}
use Rattle.typed_values.proofs.fields.FieldMap.added_by_few.Given as goal

abbrev pub invariant-loop-place : goal.invariant-loop-place
invariant-loop-place l = (l.count + length l.self ≡ length (fields_with l.self (take l.place l.pairs))) × (l.count ≤ l.place)
