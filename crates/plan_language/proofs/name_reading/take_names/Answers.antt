use Rattle.std.proofs.Common.{◌+◌, ◌∙◌, Err, ap, arith, sym}
use Rattle.node_names.proofs.Names.{one_longer}
use Rattle.plan_language.specs.Texts.{names_in, parts}
use Rattle.plan_language.proofs.Reading.{name_refused, name_taken}
use Rattle.plan_language.proofs.name_reading.take_names.Goals as goal

pub returns-in-Err-clause-read : goal.returns-in-Err-clause-read
returns-in-Err-clause-read c v =
    let loop = c.loop-line in
    loop.invariant.whole v
    ∙ name_refused v loop.number loop.table c.get.result.now (parts 10 loop.rest.now) c.in-Some.line.now c.in-Some.more.now
    c.in-Err.cause c.in-Some.ensures.line c.get.ensures.value c.in-Err.ensures.value
    ∙ ap Err (sym c.fault.ensures)

pub loop-line-preserved : goal.loop-line-preserved
loop-line-preserved c =
    let loop = c.loop-line in
    let more = parts 10 c.in-Some.more.now in
    record {
      whole = λ v. loop.invariant.whole v
          ∙ name_taken v loop.number loop.table c.get.result.now (parts 10 loop.rest.now) c.in-Some.line.now
          c.in-Some.more.now _ c.in-Some.ensures.line c.get.ensures.value c.in-Ok.ensures.value
          ∙ ap (λ ns. names_in v (loop.number + 1) ns more) (sym c.push.ensures.value);
      counted = omega (arith, loop.invariant.counted, one_longer loop.table c.push.new.self _ c.push.ensures.value);
      few = c.push.ensures.few;
    }

pub returns-clause-number : goal.returns-clause-number
returns-clause-number c = omega (arith, c.loop-line.invariant.counted, c.loop-line.invariant.few)
