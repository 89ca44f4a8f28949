use Rattle.resp2_wire.proofs.Staying.{is_count}
use Rattle.resp2_wire.proofs.Skipping.{not_empty, not_empty_err, is_empty}
use Rattle.resp2_wire.proofs.decoder.empty_length.Goals as goal

pub returns-then-count-ne0-clause-none : goal.returns-then-count-ne0-clause-none
returns-then-count-ne0-clause-none c = not_empty c.in-Ok.count c.args.bytes.now c.in-Ok.rest.now c.if-count-ne0.true c.in-Ok.ensures.read

pub overflow_sub-result : goal.overflow_sub-result
overflow_sub-result c = (is_empty c.args.bytes.now c.in-Ok.rest.now (rw c.if-count-ne0.false at c.in-Ok.ensures.read) (is_count.cuts c.args.bytes.now)).le

pub returns-else-count-ne0-clause-some : goal.returns-else-count-ne0-clause-some
returns-else-count-ne0-clause-some c =
    let e = is_empty c.args.bytes.now c.in-Ok.rest.now (rw c.if-count-ne0.false at c.in-Ok.ensures.read) (is_count.cuts c.args.bytes.now) in
    (e.some, e.fits, e.reads)

pub returns-in-Err-clause-none : goal.returns-in-Err-clause-none
returns-in-Err-clause-none c = not_empty_err c.in-Err.field-0 c.args.bytes.now c.in-Err.ensures.read
