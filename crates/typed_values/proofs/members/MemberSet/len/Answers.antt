use Rattle.std.proofs.Common.{subst}
use Rattle.typed_values.proofs.MembersSeen.{distinct-members_of}
use Rattle.typed_values.specs.Members.{HasDistinctMembers}
use Rattle.typed_values.proofs.members.MemberSet.len.Goals as goal

pub returns-clause-distinct : goal.returns-clause-distinct
returns-clause-distinct c = subst HasDistinctMembers c.self.view_is (distinct-members_of _ c.len.ensures.unique)
