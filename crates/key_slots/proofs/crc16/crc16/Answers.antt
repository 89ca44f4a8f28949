use Rattle.std.proofs.lemmas.List.{take_rest}
use Rattle.std.proofs.Math.Facts.{Fits-lt-pow}
use Rattle.key_slots.proofs.Long.{long_division}
use Rattle.key_slots.proofs.Slicing.{none_yet, four_done, one_done, all_done}
use Rattle.key_slots.proofs.crc16.crc16.Goals as goal

pub loop-left-init : goal.loop-left-init
loop-left-init c = none_yet c.args.bytes.now

pub loop-left-preserved : goal.loop-left-preserved
loop-left-preserved c =
    rw take_rest
    (four_done c.args.bytes.now c.loop-left.left.now c.loop-left.crc c.step_of_four-crc.result c.in-len4-up.len_at_least c.loop-left.invariant c.step_of_four-crc.ensures)

pub loop-byte-preserved : goal.loop-byte-preserved
loop-byte-preserved c =
    one_done c.args.bytes.now _ c.loop-byte.byte-index c.loop-byte.crc c.step-crc.result c.loop-byte-test.true c.loop-byte.invariant c.step-crc.ensures

pub returns-clause-divided : goal.returns-clause-divided
returns-clause-divided c =
    long_division c.args.bytes.now c.loop-byte.crc (λ i. Fits-lt-pow (c.type_inv.bytes i))
    (all_done c.args.bytes.now _ c.loop-byte.byte-index c.loop-byte.crc c.loop-byte-test.false c.loop-byte.invariant)

pub returns-clause-exact : goal.returns-clause-exact
returns-clause-exact c =
    all_done c.args.bytes.now _ c.loop-byte.byte-index c.loop-byte.crc c.loop-byte-test.false c.loop-byte.invariant
