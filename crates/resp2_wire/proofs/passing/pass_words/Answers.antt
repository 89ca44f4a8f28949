use Rattle.std.proofs.Common.{◌≡◌, ◌-◌, ◌+◌, suc, arith, sym, ◌∙◌}
use Rattle.std.proofs.lemmas.Result.{err_from_is_err_and}
use Rattle.resp2_wire.proofs.Ahead.{passes, stops_at, none_left}
use Rattle.resp2_wire.proofs.passing.pass_words.Goals as goal

pub returns-in_err-after : goal.returns-in_err-after
returns-in_err-after c =
    let p = err_from_is_err_and c.from_residual.result c.from_residual.ensures.1 in
    let one_more : c.args.count - c.loop.counter ≡ suc (c.args.count - (c.loop.counter + 1)) = omega (arith, c.loop-test.true) in
    rw (p.1, p.2) (sym (stops_at _ _ c.loop.rest.now c.in_err-after.field-0.0 one_more c.in_err-after.ensures.read) ∙ c.loop.invariant)

pub loop-preserved : goal.loop-preserved
loop-preserved c =
    let one_more : c.args.count - c.loop.counter ≡ suc (c.args.count - (c.loop.counter + 1)) = omega (arith, c.loop-test.true) in
    sym (passes _ _ c.loop.rest.now _ c.in_ok-after.after.now one_more c.in_ok-after.ensures.read) ∙ c.loop.invariant

pub returns : goal.returns
returns c =
    let none : c.args.count - c.loop.counter ≡ 0 = omega (arith, c.loop-test.false) in
    sym (none_left _ c.loop.rest.now none) ∙ c.loop.invariant
