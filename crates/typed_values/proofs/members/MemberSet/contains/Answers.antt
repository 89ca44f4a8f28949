use Rattle.std.proofs.Common.{ap, ◌∙◌}
use Rattle.typed_values.proofs.MembersSeen.{has-members_of}
use Rattle.typed_values.specs.Members.{has}
use Rattle.typed_values.proofs.members.MemberSet.contains.Goals as goal

pub returns : goal.returns
returns c = c.contains.ensures ∙ has-members_of c.args.member.now c.self.inside.set.keys ∙ ap (λ ms. has ms c.args.member.now) c.self.view_is
