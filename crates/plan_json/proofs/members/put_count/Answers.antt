use Rattle.std.proofs.Common.{◌+◌, ◌*◌, ◌≤◌, length, arith}
use Rattle.serde_json.specs.View.{members_view, view}
use Rattle.serde_json.specs.Written.{compact_text}
use Rattle.plan_json.proofs.Sizes.{grown}
use Rattle.plan_json.proofs.members.put_count.Goals as goal

pub returns-clause-few : goal.returns-clause-few
returns-clause-few c =
    grown c.put.result c.args.name.now (view c.counted.result) (members_view c.args.members.now.entries)
    (members_view c.put.new.map.entries) 20 (24 + 6 * length c.args.name.now) c.counted.ensures.few (omega arith)
    c.put.ensures.ok
