use Rattle.std.proofs.Common.{ℕ, ◌+◌, ◌≤◌, Bool, cond, length, take, subst, ap, sym, ◌∙◌}
use Rattle.typed_values.proofs.Counting.{at_most_one}
use Rattle.typed_values.proofs.FieldsSeen.{counted_fields_less}
use Rattle.typed_values.specs.Fields.{fields_without}
use Rattle.typed_values.proofs.fields.FieldMap.removed_by_few.Goals as goal

pub loop-place-preserved : goal.loop-place-preserved
loop-place-preserved c =
    let es = c.args.self.now in
    let fs = c.args.names.now in
    let i = c.loop-place.place in
    let one = c.one_if-count.ensures ∙ ap (λ (b : Bool). cond {A = ℕ} b 1 0) c.removes.ensures in (
      ap (λ n. c.loop-place.count + n + length (fields_without es (take (i + 1) fs))) one ∙ counted_fields_less es fs i c.loop-place.count c.len-count.ensures.distinct c.loop-place-test.true c.loop-place.invariant.0,
      subst (λ n. c.loop-place.count + n ≤ i + 1) (sym one) (at_most_one c.loop-place.count i _ c.loop-place.invariant.1),
    )
