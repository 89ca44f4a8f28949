use Rattle.std.proofs.Common.{◌≡◌, ◌≤◌, ◌+◌, ◌∙◌, ap, arith, false, rules, sym}
use Rattle.std.specs.Prelude.{is_some}
use Rattle.redis_servers.proofs.Checks.{one_less}
use Rattle.redis_servers.specs.RunHistories.{taken_from}
use Rattle.redis_servers.proofs.shown.taken_within.Goals as goal

pub loop-number-preserved : goal.loop-number-preserved
loop-number-preserved c =
    let few : c.loop-number.number ≤ c.args.last = search rules in
    let none : is_some (taken_from c.args.history.now c.args.survey.now c.args.node c.loop-number.number) ≡ false =
    ap (λ s. is_some (taken_from c.args.history.now c.args.survey.now c.args.node s)) (sym c.of.ensures)
    ∙ ap (λ o. is_some o) (sym c.taken_from.ensures) ∙ sym c.is_some.ensures ∙ c.if-is_some.false in
    c.loop-number.invariant
    ∙ one_less c.args.history.now c.args.survey.now c.args.node c.loop-number.number (c.loop-number.number + 1)
    c.args.last (omega arith) few none
