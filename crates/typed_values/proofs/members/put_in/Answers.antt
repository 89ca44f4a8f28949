use Rattle.std.proofs.Common.{ap, sym, subst, ◌∙◌}
use Rattle.typed_values.proofs.MembersSeen.{members_of-insert_key}
use Rattle.typed_values.proofs.Limits.{short-with_member}
use Rattle.typed_values.specs.Members.{members_of, with_member, AreShortMembers}
use Rattle.typed_values.proofs.members.put_in.Goals as goal

pub returns-clause-ok : goal.returns-clause-ok
returns-clause-ok c =
    rw c.in_ok-insert.ensures.keys (members_of-insert_key c.args.set.now.keys _)
    ∙ ap (with_member (members_of c.args.set.now.keys)) c.into_vec.ensures.value

pub returns-clause-short : goal.returns-clause-short
returns-clause-short c short =
    let text = rw c.into_vec.ensures.value at c.into_vec.ensures.limit in
    subst AreShortMembers (sym (returns-clause-ok c)) (short-with_member (members_of c.args.set.now.keys) c.args.text short text)
