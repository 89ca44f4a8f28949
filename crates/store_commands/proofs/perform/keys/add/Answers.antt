use Rattle.std.proofs.Common.{ap, ◌∙◌}
use Rattle.typed_values.specs.Members.{members_of, with_member}
use Rattle.typed_values.proofs.MembersSeen.{members_of-insert_key}
use Rattle.store_commands.proofs.perform.keys.add.Goals as goal

pub returns : goal.returns
returns c =
    rw c.in_ok-_is_new.ensures.keys (members_of-insert_key c.args.seen.now.keys c.in_ok-copy.copy)
    ∙ ap (with_member (members_of c.args.seen.now.keys)) (c.in_ok-copy.ensures.items ∙ c.get.ensures.value)
