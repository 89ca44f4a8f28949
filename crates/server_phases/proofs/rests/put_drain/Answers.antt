use Rattle.std.proofs.Common.{◌≡◌, ◌++◌, ◌∷◌, []}
use Rattle.plan_language.specs.Lines.{others}
use Rattle.plan_language.specs.declared.plan_command.PlanCommand.TheVariants as planned
use Rattle.plan_semantics.specs.Plans.{tell}
use Rattle.server_phases.specs.Texts.{rest_text}
use Rattle.server_phases.proofs.Joined.{line_put, on_ok}
use Rattle.server_phases.proofs.rests.put_drain.Goals as goal

pub returns : goal.returns
returns c =
    let s = c.args.slot in
    let a = c.args.source in
    let b = c.args.target in
    let rest = tell s b (others c.args.nodes a b) in
    on_ok c.put.result
    (c.put.new.out.items ≡ c.put_others.new.out.items ++ 10 ∷ [])
    (c.put.new.out.items ≡ c.args.out.now.items
    ++ rest_text s (planned.Drain s a b 10 ∷ planned.SetNode s b b ∷ planned.SetNode s b a ∷ rest))
    c.put.ensures
    (λ r. line_put c.args.out.now.items c.put_head.new.out.items c.put_moving.new.out.items c.put_others.new.out.items
    c.put.new.out.items s (planned.Drain s a b 10) (planned.SetNode s b b ∷ planned.SetNode s b a ∷ []) rest
    c.in_ok-put_head.ensures c.in_ok-put_moving.ensures c.in_ok-put_others.ensures r)
