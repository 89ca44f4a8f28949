use Rattle.std.proofs.Common.{◌≡◌, ℕ, ◌*◌, ◌/◌, ◌%◌, ◌<◌, ◌^◌, arith}
use Rattle.std.specs.Int.Bits.{bit_xor, bit_and, and_mask, xor_lt}
use Rattle.key_slots.proofs.Table.{table_rule}
use Rattle.key_slots.proofs.Division.{divided, IsEntry}
use Rattle.key_slots.proofs.crc16.step.Goals as goal

low_part : (r : ℕ) → bit_and r 255 * 256 % 65536 ≡ (r % 2 ^ 8) * 2 ^ 8
low_part r =
    let e : bit_and r 255 ≡ r % 2 ^ 8 = and_mask r 8 in
    rw e (omega arith)

pub returns : goal.returns
returns c = λ n before.
    let index : bit_xor (c.args.crc / 256) c.args.byte < 2 ^ 8 = xor_lt 8 (c.args.crc / 256) c.args.byte (omega arith) (omega arith) in
    let at : IsEntry (bit_xor (c.args.crc / 256) c.args.byte) c.entry.result = rw c.entry.ensures (table_rule _ 0 index) in
    rw low_part (divided n c.args.crc c.args.byte (c.args.crc / 256) (c.args.crc % 2 ^ 8) c.entry.result before (omega arith) (omega arith) (omega arith) at)
