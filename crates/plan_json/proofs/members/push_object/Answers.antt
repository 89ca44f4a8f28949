use Rattle.std.proofs.Common.{◌+◌, ◌≤◌, length, arith}
use Rattle.serde_json.specs.View.{members_view, view}
use Rattle.serde_json.specs.Written.{compact_text}
use Rattle.plan_json.specs.Sizes.{size}
use Rattle.plan_json.proofs.Sizes.{pushed}
use Rattle.plan_json.proofs.members.push_object.Goals as goal

pub returns-clause-few : goal.returns-clause-few
returns-clause-few c =
    let few : length (compact_text (view c.from.result)) ≤ 1 + size (members_view c.args.members.entries) =
    rw c.from.ensures (omega arith) in
    pushed view c.push.result c.args.items.now.items c.push.new.list.items c.from.result
    (1 + size (members_view c.args.members.entries)) (2 + size (members_view c.args.members.entries)) few (omega arith)
    c.push.ensures.ok
