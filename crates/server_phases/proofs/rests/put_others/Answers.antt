use Rattle.std.proofs.Common.{◌++◌, ap, sym, ◌∙◌, append-nil}
use Rattle.plan_language.specs.Lines.{others}
use Rattle.plan_language.proofs.MovesLeft.{others_all, others_none}
use Rattle.plan_semantics.specs.Plans.{tell}
use Rattle.server_phases.specs.Texts.{more_text}
use Rattle.server_phases.proofs.Joined.{told_more}
use Rattle.server_phases.proofs.rests.put_others.Goals as goal

pub loop-number-init : goal.loop-number-init
loop-number-init c =
    ap (λ ms. c.args.out.now.items ++ more_text (tell c.args.slot c.args.target ms))
    (others_all c.args.nodes c.args.source c.args.target)

pub loop-number-preserved : goal.loop-number-preserved
loop-number-preserved c =
    told_more c.args.nodes c.args.source c.args.target c.loop-number.number c.of-node.result c.args.slot c.args.target
    c.is_other.result
    (c.args.out.now.items ++ more_text (tell c.args.slot c.args.target (others c.args.nodes c.args.source c.args.target)))
    c.loop-number.out.items c.put_told_if.new.out.items c.loop-number-test.true c.of-node.ensures c.is_other.ensures
    c.loop-number.invariant c.in_ok-put_told_if.ensures

pub returns : goal.returns
returns c =
    sym (append-nil c.loop-number.out.items)
    ∙ ap (λ ms. c.loop-number.out.items ++ more_text (tell c.args.slot c.args.target ms))
    (sym (others_none c.args.nodes c.args.source c.args.target c.loop-number.number c.loop-number-test.false))
    ∙ sym c.loop-number.invariant
