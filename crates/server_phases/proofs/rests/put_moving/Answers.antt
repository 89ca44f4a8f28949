use Rattle.std.proofs.Common.{◌≡◌, ◌++◌, ◌∷◌, []}
use Rattle.plan_language.specs.declared.plan_command.PlanCommand.TheVariants as planned
use Rattle.server_phases.specs.Texts.{joined_text, more_text}
use Rattle.server_phases.proofs.Joined.{on_ok, three_put}
use Rattle.server_phases.proofs.rests.put_moving.Goals as goal

pub returns : goal.returns
returns c =
    let s = c.args.slot in
    let a = c.args.source in
    let b = c.args.target in
    on_ok c.put_node_told-2.result
    (c.put_node_told-2.new.out.items ≡ c.put_node_told.new.out.items ++ more_text (planned.SetNode s b a ∷ []))
    (c.put_node_told-2.new.out.items ≡ c.args.out.now.items
    ++ joined_text (planned.Drain s a b 10 ∷ planned.SetNode s b b ∷ planned.SetNode s b a ∷ []))
    c.put_node_told-2.ensures
    (λ r. three_put c.args.out.now.items c.put_command.new.out.items c.put_node_told.new.out.items
    c.put_node_told-2.new.out.items (planned.Drain s a b 10) (planned.SetNode s b b) (planned.SetNode s b a)
    c.in_ok-put_command.ensures c.in_ok-put_node_told.ensures r)
