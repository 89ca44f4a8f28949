use Rattle.resp2_wire.proofs.ShortHeaders.{null_header, zero_header}
use Rattle.resp2_wire.proofs.reading.any_header_at.Goals as goal

pub returns-in-Some : goal.returns-in-Some
returns-in-Some c = null_header c.args.fault c.args.bytes.now c.in-Some.rest.now c.in-Some.ensures.cases.0 c.in-Some.ensures.cases.1

pub returns-in-Some-strip_prefix : goal.returns-in-Some-strip_prefix
returns-in-Some-strip_prefix c = zero_header c.args.fault c.args.bytes.now c.in-Some-strip_prefix.rest.now c.in-Some-strip_prefix.ensures.cases.0 c.in-Some-strip_prefix.ensures.cases.1
