use Rattle.std.proofs.Common.{subst}
use Rattle.typed_values.proofs.Views.{distinct-seen}
use Rattle.typed_values.specs.Fields.{same_bytes, HasDistinctFields}
use Rattle.typed_values.proofs.fields.FieldMap.len.Goals as goal

pub returns-clause-distinct : goal.returns-clause-distinct
returns-clause-distinct c = subst HasDistinctFields c.self.view_is (distinct-seen (λ v. v.items) (λ v. v.items) same_bytes _ c.len.ensures.unique)
