use Rattle.std.proofs.Common.{arith}
use Rattle.plan_language.proofs.Printed.{text_read, within_more}
use Rattle.plan_language.proofs.line_reading.line_in.Goals as goal

pub returns-in-Some-clause-value : goal.returns-in-Some-clause-value
returns-in-Some-clause-value c =
    let usual = c.in-Some.ensures in
    text_read c.args.limits (omega arith) c.args.version c.in-Some.line c.args.text.now usual.line
    (within_more c.args.limits c.requires c.in-Some.line usual.within) (usual.fits c.args.version) usual.text

pub returns-in-Some-clause-within : goal.returns-in-Some-clause-within
returns-in-Some-clause-within c = within_more c.args.limits c.requires c.in-Some.line c.in-Some.ensures.within

pub returns-in-Some-clause-fits : goal.returns-in-Some-clause-fits
returns-in-Some-clause-fits c = c.in-Some.ensures.fits c.args.version
