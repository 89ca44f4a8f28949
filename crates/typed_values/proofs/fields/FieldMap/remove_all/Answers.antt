use Rattle.std.proofs.Common.{◌≤◌, length, ap, sym, subst, arith}
use Rattle.typed_values.proofs.Limits.{short-fields_without, length-fields_without}
use Rattle.typed_values.specs.Fields.{Fields, fields_of, AreShortFields}
use Rattle.typed_values.proofs.fields.FieldMap.remove_all.Goals as goal

pub overflow_sub-result : goal.overflow_sub-result
overflow_sub-result c =
    let less = length-fields_without (fields_of c.self.inside.map.entries) c.into_vec.result.items in
    omega (arith, c.len-before.ensures.count, ap length c.self.view_is, c.len.ensures.count, ap length c.remove_named.ensures, less)

pub invariant_of-self : goal.invariant_of-self
invariant_of-self c =
    let P : Fields → Type 0 = λ es. (length es ≤ 1048576) × AreShortFields es in
    let old = fields_of c.self.inside.map.entries in
    let less = length-fields_without old c.into_vec.result.items in
    subst P (sym c.remove_named.ensures) (omega arith, short-fields_without old c.into_vec.result.items c.self.invariant.1)
