use Rattle.std.proofs.Common.{◌<◌, true, arith, rules, sym, subst, below_more}
use Rattle.std.specs.Prelude.{IsTrue, length, ℕ}
use Rattle.cluster_admin.specs.Surveys.{StandsIn}
use Rattle.server_phases.specs.ServerPhases.{modelled}
use Rattle.server_phases.proofs.phases.is_modelled.Goals as goal
use Rattle.server_phases.proofs.phases.is_modelled.Goals.{After-loop-number}

-- each node stands so
each : (c : After-loop-number) (n : ℕ) → n < length c.args.survey.now.rows
    → StandsIn c.args.survey.now c.args.slot (modelled c.args.phase.now) n
each c n h = c.loop-number.invariant n (omega (arith, h, c.nodes-number-end.ensures.value, c.loop-number-test.false))

pub loop-number-preserved : goal.loop-number-preserved
loop-number-preserved c =
    let is : IsTrue true = search rules in
    below_more _ _ c.loop-number.invariant
    (subst (StandsIn c.args.survey.now c.args.slot (modelled c.args.phase.now)) c.of.ensures
    (c.stands.ensures.0 (subst IsTrue (sym c.if-not-stands.false) is)))

pub returns : goal.returns
returns c =
    let is : IsTrue true = search rules in (
      λ h. record {
        fine = c.may_be.ensures.0 (subst IsTrue (sym c.if-not-may_be.false) is);
        owners = λ n l. (each c n l).owner;
        going = λ n l. (each c n l).going;
        coming = λ n l. (each c n l).coming;
      },
      λ u. is,
    )
