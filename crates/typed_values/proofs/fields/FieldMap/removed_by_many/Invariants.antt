use Rattle.std.proofs.Common.{◌≡◌, ◌+◌, ◌≤◌, [], length, take}
use Rattle.typed_values.specs.Members.{members_with}
use Rattle.typed_values.specs.Fields.{fields_without}
use Rattle.typed_values.proofs.fields.FieldMap.removed_by_many.Given as goal

abbrev pub invariant-loop-place : goal.invariant-loop-place
invariant-loop-place l = (l.count + length (fields_without l.self (take l.place l.names)) ≡ length l.self) × (l.count ≤ l.place) × (l.seen ≡ members_with [] (take l.place l.names))
