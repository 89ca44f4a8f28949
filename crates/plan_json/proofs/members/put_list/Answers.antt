use Rattle.std.proofs.Common.{◌+◌, ◌*◌, ◌≤◌, length, map, arith}
use Rattle.serde_json.specs.View.{members_view, view}
use Rattle.serde_json.specs.Written.{compact_text}
use Rattle.plan_json.specs.Sizes.{items_size}
use Rattle.plan_json.proofs.Sizes.{grown}
use Rattle.plan_json.proofs.members.put_list.Goals as goal

pub returns-clause-few : goal.returns-clause-few
returns-clause-few c =
    let few : length (compact_text (view c.from.result)) ≤ 1 + items_size (map view c.args.items.items) =
    rw c.from.ensures (omega arith) in
    grown c.put.result c.args.name.now (view c.from.result) (members_view c.args.members.now.entries)
    (members_view c.put.new.map.entries) (1 + items_size (map view c.args.items.items))
    (5 + (6 * length c.args.name.now + items_size (map view c.args.items.items)))
    few (omega arith) c.put.ensures.ok
