use Rattle.std.proofs.Common.{true, arith, rules, sym, subst, below_more}
use Rattle.std.specs.Prelude.{IsTrue}
use Rattle.server_phases.specs.ServerPhases.{IsToldAt}
use Rattle.server_phases.proofs.phases.are_told.Goals as goal

pub loop-number-preserved : goal.loop-number-preserved
loop-number-preserved c =
    let is : IsTrue true = search rules in
    below_more _ _ c.loop-number.invariant
    (subst (IsToldAt c.args.survey.now c.args.slot c.args.source c.args.target) c.of.ensures
    (c.is_told_at.ensures.0 (subst IsTrue (sym c.if-not-is_told_at.false) is)))

pub returns : goal.returns
returns c =
    let is : IsTrue true = search rules in (
      λ h n l. c.loop-number.invariant n (omega (arith, l, c.nodes-number-end.ensures.value, c.loop-number-test.false)),
      λ u. is,
    )
