use Rattle.std.proofs.Common.{◌+◌, ◌*◌, ◌≤◌, length, string_bytes, arith}
use Rattle.serde_json.specs.View.{members_view, view}
use Rattle.serde_json.specs.Written.{compact_text}
use Rattle.plan_json.proofs.Sizes.{grown, string_few}
use Rattle.plan_json.proofs.members.put_node_name.Goals as goal

pub returns-clause-few : goal.returns-clause-few
returns-clause-few c =
    let few : length (compact_text (view c.from.result)) ≤ 26 =
    rw c.from.ensures (omega (arith, string_few (string_bytes c.in_ok-text.text), c.in_ok-text.ensures.few)) in
    grown c.put.result c.args.name.now (view c.from.result) (members_view c.args.members.now.entries)
    (members_view c.put.new.map.entries) 26 (30 + 6 * length c.args.name.now)
    few (omega arith) c.put.ensures.ok
