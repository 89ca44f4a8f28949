use Rattle.std.proofs.Common.{◌∙◌, ◌-◌, ◌++◌, ◌∷◌, [], sym, ap, append-nil, append_assoc, arith}
use Rattle.plan_language.specs.Lines.{numbers_from}
use Rattle.reshard_planner.proofs.Steps.{counted_more, counted_none}
use Rattle.reshard_planner.proofs.slot_list.SlotList.push_all.Goals as goal

pub loop-number-init : goal.loop-number-init
loop-number-init c = sym (ap (λ l. c.self.inside.slots.items ++ l) (counted_none c.args.first) ∙ append-nil _)

pub loop-number-preserved : goal.loop-number-preserved
loop-number-preserved c = c.in_ok-push.ensures.items ∙ (λ i. c.loop-number.invariant i ++ c.of.ensures i ∷ [])
    ∙ append_assoc c.self.inside.slots.items (numbers_from c.args.first (c.loop-number.number - c.args.first)) (c.loop-number.number ∷ []) ∙ ap (λ l. c.self.inside.slots.items ++ l) (sym (counted_more c.args.first c.loop-number.number (omega arith)))
