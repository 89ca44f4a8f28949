use Rattle.std.proofs.Common.{◌+◌, ◌*◌, ◌≤◌, length, arith}
use Rattle.serde_json.specs.View.{members_view, view}
use Rattle.serde_json.specs.Written.{compact_text}
use Rattle.plan_json.specs.Sizes.{size}
use Rattle.plan_json.proofs.Sizes.{grown}
use Rattle.plan_json.proofs.members.put_object.Goals as goal

pub returns-clause-few : goal.returns-clause-few
returns-clause-few c =
    let few : length (compact_text (view c.from.result)) ≤ 1 + size (members_view c.args.inner.entries) =
    rw c.from.ensures (omega arith) in
    grown c.put.result c.args.name.now (view c.from.result) (members_view c.args.members.now.entries)
    (members_view c.put.new.map.entries) (1 + size (members_view c.args.inner.entries))
    (5 + (6 * length c.args.name.now + size (members_view c.args.inner.entries)))
    few (omega arith) c.put.ensures.ok
