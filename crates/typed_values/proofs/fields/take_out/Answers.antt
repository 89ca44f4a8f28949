use Rattle.typed_values.proofs.Views.{seen-remove_entry}
use Rattle.typed_values.specs.Fields.{same_bytes}
use Rattle.typed_values.proofs.fields.take_out.Goals as goal

pub returns : goal.returns
returns c = rw c.shift_remove.ensures.entries (seen-remove_entry (λ v. v.items) (λ v. v.items) (same_bytes c.args.name.now) _)
