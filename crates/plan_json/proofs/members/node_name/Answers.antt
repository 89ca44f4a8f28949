use Rattle.std.proofs.Common.{rules, ◌≡◌, ◌<◌, ◌^◌, IfOk, string_bytes, arith}
use Rattle.std.proofs.lemmas.Result.{IfOk-weaker}
use Rattle.plan_json.specs.Values.{node_text}
use Rattle.plan_json.proofs.Sizes.{name_few}
use Rattle.plan_json.proofs.members.node_name.Goals as goal

pub returns-clause-few : goal.returns-clause-few
returns-clause-few c =
    let told : IfOk c.format.result (λ s. string_bytes s ≡ node_text c.args.node) = search rules in
    let small : c.args.node < 2 ^ 8 = omega (arith, c.get-number.ensures.value, c.get-number.ensures.within) in
    IfOk-weaker c.format.result _ _ (λ s is. rw is (name_few c.args.node small)) told
