use Rattle.std.proofs.Common.{◌+◌, ◌*◌, ◌≤◌, length, arith}
use Rattle.serde_json.specs.View.{members_view, view}
use Rattle.serde_json.specs.Written.{compact_text}
use Rattle.plan_json.proofs.Sizes.{grown, string_few}
use Rattle.plan_json.proofs.members.put_str.Goals as goal

pub returns-clause-few : goal.returns-clause-few
returns-clause-few c =
    let few : length (compact_text (view c.in_ok-text.text)) ≤ 2 + 6 * length c.args.text.now =
    rw c.in_ok-text.ensures (string_few c.args.text.now) in
    grown c.put.result c.args.name.now (view c.in_ok-text.text) (members_view c.args.members.now.entries)
    (members_view c.put.new.map.entries) (2 + 6 * length c.args.text.now)
    (6 + 6 * (length c.args.name.now + length c.args.text.now))
    few (omega arith) c.put.ensures.ok
