use Rattle.std.proofs.Common.{ap, sym, ◌∙◌}
use Rattle.std.proofs.lemmas.List.Sums.{fold_more}
use Rattle.typed_values.proofs.MembersSeen.{members_of-remove_key}
use Rattle.typed_values.specs.Members.{members_of, without_member}
use Rattle.typed_values.proofs.members.remove_each.Goals as goal

pub loop-text-preserved : goal.loop-text-preserved
loop-text-preserved c =
    ap members_of c.shift_remove-was_member.ensures.keys
    ∙ members_of-remove_key c.get.result.now c.loop-text.set.keys
    ∙ (λ j. without_member (c.loop-text.invariant j) ((c.get.ensures.value ∙ c.text-item.is) j))
    ∙ sym (fold_more without_member (members_of c.args.set.now.keys) c.args.texts.now c.loop-text.text-index c.text-item.result c.loop-text-test.true)
