use Rattle.std.proofs.Common.{◌+◌, ◌*◌, ◌≤◌, length, arith}
use Rattle.serde_json.specs.View.{members_view, view}
use Rattle.serde_json.specs.Written.{compact_text}
use Rattle.plan_json.proofs.Sizes.{flag_few, grown}
use Rattle.plan_json.proofs.members.put_flag.Goals as goal

pub returns-clause-few : goal.returns-clause-few
returns-clause-few c =
    let few : length (compact_text (view c.from.result)) ≤ 5 = rw c.from.ensures (flag_few c.args.flag) in
    grown c.put.result c.args.name.now (view c.from.result) (members_view c.args.members.now.entries)
    (members_view c.put.new.map.entries) (5) (9 + 6 * length c.args.name.now) few (omega arith) c.put.ensures.ok
