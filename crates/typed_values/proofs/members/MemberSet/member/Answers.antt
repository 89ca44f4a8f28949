use Rattle.typed_values.proofs.MembersSeen.{member-at}
use Rattle.typed_values.proofs.Limits.{short-member}
use Rattle.typed_values.proofs.members.MemberSet.member.Goals as goal

pub returns-clause-limit : goal.returns-clause-limit
returns-clause-limit c =
    let at = member-at c.self.inside.set.keys c.args.place _ c.unwrap.result c.get_index.ensures.key c.unwrap.ensures in
    rw c.as_slice.ensures.value (short-member _ c.args.place _ c.self.invariant.1 at)
