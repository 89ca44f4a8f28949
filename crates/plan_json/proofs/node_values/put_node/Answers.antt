use Rattle.std.proofs.Common.{◌+◌, arith}
use Rattle.serde_json.specs.View.{members_view}
use Rattle.plan_json.specs.Sizes.{names_size, size}
use Rattle.plan_json.proofs.Sizes.{at_most, of_found}
use Rattle.plan_json.proofs.node_values.put_node.Goals as goal

pub returns-in-Some-clause-few : goal.returns-in-Some-clause-few
returns-in-Some-clause-few c =
    let few = of_found c.args.servers.now c.args.change.now.node c.in-Some.server.now c.in-Some.ensures in
    at_most c.put_server.result _
    (size (members_view c.put_change.new.members.entries) + (308 + names_size c.in-Some.server.now)) _
    (omega (arith, few, c.in_ok-put_change.ensures.few)) c.put_server.ensures.few
