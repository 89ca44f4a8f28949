use Rattle.std.proofs.Common.{ℕ, ◌+◌, ◌≤◌, Bool, cond, length, take, subst, ap, sym, ◌∙◌}
use Rattle.typed_values.proofs.Counting.{counted_less, at_most_one}
use Rattle.typed_values.specs.Members.{members_without}
use Rattle.typed_values.proofs.members.MemberSet.removed_by_few.Goals as goal

pub loop-place-preserved : goal.loop-place-preserved
loop-place-preserved c =
    let ms = c.args.self.now in
    let xs = c.args.texts.now in
    let i = c.loop-place.place in
    let one = c.one_if-count.ensures ∙ ap (λ (b : Bool). cond {A = ℕ} b 1 0) c.removes.ensures in (
      ap (λ n. c.loop-place.count + n + length (members_without ms (take (i + 1) xs))) one ∙ counted_less ms xs i c.loop-place.count c.len-count.ensures.distinct c.loop-place-test.true c.loop-place.invariant.0,
      subst (λ n. c.loop-place.count + n ≤ i + 1) (sym one) (at_most_one c.loop-place.count i _ c.loop-place.invariant.1),
    )
