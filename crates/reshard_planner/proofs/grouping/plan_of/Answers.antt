use Rattle.std.proofs.Common.{◌∙◌, ap, arith, subst, sym}
use Rattle.plan_language.specs.Limits.{limits_of}
use Rattle.reshard_planner.specs.Writing.{IsBetween, IsUnderway}
use Rattle.reshard_planner.proofs.Written.{at_place, between_wide, range_room, underway_more, underway_none}
use Rattle.reshard_planner.proofs.grouping.plan_of.Goals as goal

pub loop-transfer-init : goal.loop-transfer-init
loop-transfer-init c = (
  ap (λ p. p.version) c.blank_plan-plan.ensures,
  ap (λ p. p.names) c.blank_plan-plan.ensures,
  underway_none c.args.batch (limits_of c.blank_plan-plan.result.names).nodes c.args.transfers.now c.blank_plan-plan.result.lines
      c.requires.few (ap (λ p. p.lines) c.blank_plan-plan.ensures),
)

pub loop-transfer-preserved : goal.loop-transfer-preserved
loop-transfer-preserved c =
    let i = c.loop-transfer.transfer-index in
    let names = c.in_ok-take_on.ensures.names ∙ c.loop-transfer.invariant.1 in (
      c.in_ok-take_on.ensures.version ∙ c.loop-transfer.invariant.0,
      names,
      underway_more c.args.batch (limits_of c.take_on.new.plan.names).nodes c.args.transfers.now i c.loop-transfer.plan.lines
          c.take_on.new.plan.lines c.loop-transfer.range c.transfer-item.result _ c.loop-transfer-test.true c.transfer-item.is
          (between_wide c.args.nodes c.take_on.new.plan.names c.transfer-item.result (omega (arith, c.ranges.nodes.fits)) names
          (at_place (IsBetween c.args.nodes) c.args.transfers.now i c.transfer-item.result c.requires.within c.loop-transfer-test.true
          c.transfer-item.is))
          (subst (λ x. IsUnderway c.args.batch (limits_of x).nodes c.args.transfers.now i c.loop-transfer.plan.lines c.loop-transfer.range)
          (sym c.in_ok-take_on.ensures.names) c.loop-transfer.invariant.2)
          c.in_ok-take_on.ensures.taken,
    )

pub push-requires-clause-room : goal.push-requires-clause-room
push-requires-clause-room c =
    range_room c.loop-transfer.plan.names c.loop-transfer.plan.lines c.loop-transfer.range c.in-Some.range c.line.result c.args.batch
    c.in-Some.is c.line.ensures (omega (arith, c.loop-transfer.invariant.2.room))
