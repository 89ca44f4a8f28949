use Rattle.std.proofs.Common.{◌+◌, ◌*◌, ◌≤◌, length, arith}
use Rattle.serde_json.specs.View.{members_view, view}
use Rattle.serde_json.specs.Written.{compact_text}
use Rattle.plan_json.specs.Sizes.{text_size}
use Rattle.plan_json.proofs.Sizes.{grown}
use Rattle.plan_json.proofs.members.put_text.Goals as goal

pub returns-clause-few : goal.returns-clause-few
returns-clause-few c =
    let few : length (compact_text (view c.from.result)) ≤ text_size c.args.text.now =
    rw (c.from.ensures, c.in_ok-text.ensures.lossy) (omega arith) in
    grown c.put.result c.args.name.now (view c.from.result) (members_view c.args.members.now.entries)
    (members_view c.put.new.map.entries) (text_size c.args.text.now)
    (4 + (6 * length c.args.name.now + text_size c.args.text.now))
    few (omega arith) c.put.ensures.ok
