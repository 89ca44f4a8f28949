use Rattle.std.proofs.Common.{ℕ, Vec, Global, sym, subst, ◌∙◌}
use Rattle.typed_values.proofs.Views.{seen-insert_entry}
use Rattle.typed_values.proofs.Limits.{short-put}
use Rattle.typed_values.specs.Fields.{same_bytes, fields_of, put, AreShortFields}
use Rattle.typed_values.proofs.fields.put_in.Goals as goal

pub returns-clause-ok : goal.returns-clause-ok
returns-clause-ok c =
    rw c.in_ok-replaced.ensures.entries (seen-insert_entry (λ (v : Vec ℕ Global). v.items) (λ (v : Vec ℕ Global). v.items) same_bytes c.args.map.now.entries _ _)
    ∙ (λ i. put (fields_of c.args.map.now.entries) (c.into_vec.ensures.value i) (c.into_vec-2.ensures.value i))

pub returns-clause-short : goal.returns-clause-short
returns-clause-short c short =
    let name = rw c.into_vec.ensures.value at c.into_vec.ensures.limit in
    let value = rw c.into_vec-2.ensures.value at c.into_vec-2.ensures.limit in
    subst AreShortFields (sym (returns-clause-ok c)) (short-put (fields_of c.args.map.now.entries) c.args.name c.args.value short (name, value))
