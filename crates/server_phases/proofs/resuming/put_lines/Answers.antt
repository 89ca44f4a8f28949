use Rattle.std.proofs.Common.{◌+◌, ◌++◌, ◌∙◌, refl, drop, take, subst, arith}
use Rattle.std.proofs.lemmas.List.{take_all}
use Rattle.std.proofs.lemmas.Result.{err_from_is_err_and}
use Rattle.plan_language.specs.Limits.{limits_of}
use Rattle.reshard_planner.specs.Resuming.{width}
use Rattle.server_phases.specs.Resumed.{AddsMoves, HasBeyond, HasCommand, IsBeyond, IsCommand, still_left, still_of}
use Rattle.server_phases.proofs.Moved.{adds_none, adds_same, adds_then, beyond_there, command_there, fault_after, left_more, left_parts}
use Rattle.server_phases.proofs.resuming.put_lines.Goals as goal

pub loop-line-init : goal.loop-line-init
loop-line-init c = record {
  version = c.requires.version;
  names = refl;
  total = c.count_of-total.ensures.value;
  few = c.count_of-total.ensures.most;
  adds = λ n phases shows. adds_none n c.args.plan.now;
}

pub returns-in_err-put_line : goal.returns-in_err-put_line
returns-in_err-put_line c =
    let p = err_from_is_err_and c.from_residual.result c.from_residual.ensures.1 in
    let xs = c.args.moves.now in
    let i = c.loop-line.line-index in
    let x = c.line-item.result in
    rw (p.1, p.2) (λ phases shows.
    fault_after 0 c.args.plan.now c.loop-line.plan (still_left phases (take i xs)) (still_of phases x)
    (still_left phases (drop (i + 1) xs)) (still_left phases xs) (IsCommand x) (HasCommand xs)
    (IsBeyond (width c.loop-line.plan) x) (HasBeyond (width c.args.plan.now) xs) c.in_err-put_line.field-0.0
    (c.loop-line.invariant.adds 0 phases shows) (left_parts phases xs i x c.loop-line-test.true c.line-item.is)
    (command_there xs i x c.loop-line-test.true c.line-item.is)
    (λ far. beyond_there (width c.args.plan.now) xs i x c.loop-line-test.true c.line-item.is
    (subst (λ ns. IsBeyond (limits_of ns).nodes x) c.loop-line.invariant.names far)) (c.in_err-put_line.ensures.adds phases shows))

pub loop-line-preserved : goal.loop-line-preserved
loop-line-preserved c =
    let xs = c.args.moves.now in
    let i = c.loop-line.line-index in
    let x = c.line-item.result in
    record {
      version = c.in_ok-put_line.ensures.version;
      names = c.in_ok-put_line.ensures.names ∙ c.loop-line.invariant.names;
      total = c.in_ok-put_line.ensures.total;
      few = c.in_ok-put_line.ensures.few;
      adds = λ n phases shows.
          adds_same n c.args.plan.now c.put_line.new.plan (still_left phases (take i xs) ++ still_of phases x)
          (still_left phases (take (i + 1) xs)) (left_more phases xs i x c.loop-line-test.true c.line-item.is)
          (adds_then n c.args.plan.now c.loop-line.plan c.put_line.new.plan (still_left phases (take i xs))
          (still_of phases x) (c.loop-line.invariant.adds n phases shows) (c.in_ok-put_line.ensures.adds n phases shows));
    }

pub returns : goal.returns
returns c n phases shows =
    subst (λ xs. AddsMoves n c.args.plan.now c.loop-line.plan (still_left phases xs))
    (take_all c.loop-line.line-index c.args.moves.now (omega (arith, c.loop-line-test.false)))
    (c.loop-line.invariant.adds n phases shows)
