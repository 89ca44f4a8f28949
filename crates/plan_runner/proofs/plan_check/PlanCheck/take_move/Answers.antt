use Rattle.std.proofs.Common.{◌++◌, subst, arith}
use Rattle.std.proofs.lemmas.Result.{err_from_is_err_and}
use Rattle.plan_language.specs.Lines.{others, moves}
use Rattle.plan_language.specs.Moves.{move_of}
use Rattle.plan_runner.specs.Standing.{Stands, Takes}
use Rattle.plan_runner.proofs.Checked.{none_moved, one_moved, stopped_at}
use Rattle.plan_runner.proofs.plan_check.PlanCheck.take_move.Goals as goal

pub loop-number-init : goal.loop-number-init
loop-number-init g c = (omega arith, omega arith, λ b phases prefix h. none_moved c.args.rules.version c.args.rules.nodes phases prefix c.args.first c.args.source c.args.target b c.get-number.result c.args.self.now c.get-number.ensures.value h)

pub returns-in_err-take_slot-clause-takes : goal.returns-in_err-take_slot-clause-takes
returns-in_err-take_slot-clause-takes g c b phases prefix h =
    let p = err_from_is_err_and c.from_residual.result c.from_residual.ensures.1 in
    rw (p.1, p.2) (λ rest. stopped_at c.args.rules.version c.args.rules.nodes phases prefix c.args.first c.args.source c.args.target b c.loop-number.number c.args.last rest c.loop-number.self c.take_slot.new.self c.take_slot.result c.in_err-take_slot.field-0.0
    c.loop-number.invariant.0 (omega arith) (subst (λ x. Takes c.args.rules (move_of x c.args.source c.args.target b (others c.args.rules.nodes c.args.source c.args.target)) c.loop-number.self c.take_slot.new.self c.take_slot.result) c.of.ensures (c.take_slot.ensures.takes b)) c.in_err-take_slot.was (c.loop-number.invariant.2 b phases prefix h))

pub loop-number-preserved : goal.loop-number-preserved
loop-number-preserved g c = (
  omega arith,
  (let more = c.in_ok-take_slot.ensures.count in let count = c.others_len-each.ensures.most in omega (arith, more, count, c.requires.nodes, c.requires.most)),
  λ b phases prefix h. one_moved c.args.rules.version c.args.rules.nodes phases prefix c.args.first c.args.source c.args.target b c.loop-number.number c.loop-number.self c.take_slot.new.self c.take_slot.result _
      c.loop-number.invariant.0 (subst (λ x. Takes c.args.rules (move_of x c.args.source c.args.target b (others c.args.rules.nodes c.args.source c.args.target)) c.loop-number.self c.take_slot.new.self c.take_slot.result) c.of.ensures (c.take_slot.ensures.takes b)) c.in_ok-take_slot.was (c.loop-number.invariant.2 b phases prefix h),
)

pub returns-clause-takes : goal.returns-clause-takes
returns-clause-takes g c b phases prefix h = subst (λ k. Stands c.args.rules.version c.args.rules.nodes phases (prefix ++ moves c.args.rules.nodes c.args.first k c.args.source c.args.target b) c.loop-number.self) (omega arith) (c.loop-number.invariant.2 b phases prefix h)
