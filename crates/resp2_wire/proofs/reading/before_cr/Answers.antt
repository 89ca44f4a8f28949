use Rattle.std.proofs.Common.{◌≡◌, ◌+◌, ◌-◌, length, take, drop, arith}
use Rattle.std.proofs.lemmas.Bool.{ne_eqb}
use Rattle.std.proofs.lemmas.Grind.{common_steps}
use Rattle.resp2_wire.proofs.Lines.{line_goes_on, line_ends, line_is_short, line_is_long}
use Rattle.resp2_wire.proofs.reading.before_cr.Goals as goal

pub returns-then-i-bytes-clause-found : goal.returns-then-i-bytes-clause-found
returns-then-i-bytes-clause-found c = line_is_short c.args.fault c.args.bytes.now 21 c.loop-i.i _ c.loop-i-test.true c.loop-i.invariant c.if-i-bytes.true

pub returns-then-bytes-i-eq13-clause-found : goal.returns-then-bytes-i-eq13-clause-found
returns-then-bytes-i-eq13-clause-found c =
    let bytes = c.args.bytes.now in
    let i = c.loop-i.i in
    let rest : take (length bytes - (i + 1)) (drop (i + 1) bytes) ≡ drop (i + 1) bytes = grind (arith, common_steps) in
    rw rest (line_ends c.args.fault bytes 21 i _ c.loop-i-test.true c.loop-i.invariant c.if-i-bytes.false (rw c.if-bytes-i-eq13.true))

pub loop-i-preserved : goal.loop-i-preserved
loop-i-preserved c = line_goes_on c.args.fault c.args.bytes.now 21 c.loop-i.i _ c.loop-i-test.true c.loop-i.invariant c.if-i-bytes.false (ne_eqb _ _ c.if-bytes-i-eq13.false)

pub returns-clause-found : goal.returns-clause-found
returns-clause-found c = line_is_long c.args.fault _ _ 21 c.loop-i.i _ c.loop-i-test.false c.loop-i.invariant
