use Rattle.std.proofs.Common.{◌≤◌, true, length, arith, rules, subst, below_more, inl, inr}
use Rattle.std.specs.Prelude.{IsTrue}
use Rattle.std.proofs.lemmas.Bool.{cases_lt}
use Rattle.cluster_admin.specs.Phases.{Phase}
use Rattle.cluster_admin.specs.Surveys.{HasPhaseIn}
use Rattle.cluster_admin.proofs.Phasing.{closed_beyond, no_phase, phase_there}
use Rattle.cluster_admin.proofs.survey.Survey.is_open.Goals as goal

pub returns-then-is_none : goal.returns-then-is_none
returns-then-is_none c = (
  (λ h. search rules),
  (λ u.
      let at = u c.of.result in
      absurd (no_phase c.args.self.now c.of.result c.phase_of.result c.is_none.result c.is_none.ensures c.if-is_none.true c.phase_of.ensures.none at.0 at.1)),
)

pub loop-number-preserved : goal.loop-number-preserved
loop-number-preserved c =
    below_more _ _ c.loop-number.invariant
    (subst (λ s. (p : Phase) × HasPhaseIn c.args.self.now s p) c.of.ensures
    (phase_there c.args.self.now c.of.result c.phase_of.result c.is_none.result c.is_none.ensures c.if-is_none.false c.phase_of.ensures.phase))

pub returns : goal.returns
returns c =
    let is : IsTrue true = search rules in
    let some : 1 ≤ length c.args.self.now.rows = omega (arith, c.nodes-nodes.ensures.value, c.nodes-nodes.ensures.least) in (
      λ h s. elim (cases_lt s 16384) [
        | inl l ↦ c.loop-number.invariant s (omega (arith, l, c.loop-number-test.false))
        | inr g ↦ closed_beyond c.args.self.now s c.nodes-nodes.ensures.slots some g
      ],
      λ u. is,
    )
