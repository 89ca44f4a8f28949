use Rattle.std.proofs.Common.{sym, ◌∙◌}
use Rattle.std.proofs.lemmas.List.Sums.{fold_more}
use Rattle.typed_values.specs.Fields.{fields_of, without}
use Rattle.typed_values.proofs.fields.remove_each.Goals as goal

pub loop-name-preserved : goal.loop-name-preserved
loop-name-preserved c =
    c.take_out.ensures
    ∙ (λ j. without (c.loop-name.invariant j) ((c.get.ensures.value ∙ c.name-item.is) j))
    ∙ sym (fold_more without (fields_of c.args.map.now.entries) c.args.names.now c.loop-name.name-index c.name-item.result c.loop-name-test.true)
