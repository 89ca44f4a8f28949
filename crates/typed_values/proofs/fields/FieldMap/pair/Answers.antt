use Rattle.typed_values.proofs.Views.{seen-at}
use Rattle.typed_values.proofs.Limits.{short-pair}
use Rattle.typed_values.proofs.fields.FieldMap.pair.Goals as goal

pub returns-clause-name : goal.returns-clause-name
returns-clause-name c =
    let at = seen-at (λ v. v.items) (λ v. v.items) c.self.inside.map.entries c.args.place _ c.unwrap.result c.get_index.ensures.entry c.unwrap.ensures in
    rw c.as_slice.ensures.value (short-pair _ c.args.place _ c.self.invariant.1 at).0

pub returns-clause-value : goal.returns-clause-value
returns-clause-value c =
    let at = seen-at (λ v. v.items) (λ v. v.items) c.self.inside.map.entries c.args.place _ c.unwrap.result c.get_index.ensures.entry c.unwrap.ensures in
    rw c.as_slice-2.ensures.value (short-pair _ c.args.place _ c.self.invariant.1 at).1
