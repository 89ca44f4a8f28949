use Rattle.std.proofs.Common.{◌≡◌, ◌+◌, ◌*◌, ◌/◌, ◌%◌, ◌<◌, ◌^◌, arith}
use Rattle.std.specs.Int.Bits.{bit_xor, bit_and, and_mask, xor_lt}
use Rattle.key_slots.specs.Polynomials.{IsRemainder}
use Rattle.key_slots.proofs.Table.{table_rule, table_24_rule, table_32_rule, table_40_rule}
use Rattle.key_slots.proofs.Slicing.{divided_by_four, looked_up}
use Rattle.key_slots.proofs.crc16.step_of_four.Goals as goal

pub returns : goal.returns
returns c = λ n before.
    let high : c.args.crc / 256 < 2 ^ 8 = omega arith in
    let mask : bit_and c.args.crc 255 ≡ c.args.crc % 2 ^ 8 = and_mask c.args.crc 8 in
    let low : bit_and c.args.crc 255 < 2 ^ 8 = omega (arith, mask) in
    let parts : c.args.crc ≡ (c.args.crc / 256) * 2 ^ 8 + bit_and c.args.crc 255 = omega (arith, mask) in
    let place : bit_xor (c.args.crc / 256) c.args.first < 2 ^ 8 = xor_lt 8 (c.args.crc / 256) c.args.first high (omega arith) in
    let next : bit_xor (bit_and c.args.crc 255) c.args.second < 2 ^ 8 = xor_lt 8 (bit_and c.args.crc 255) c.args.second low (omega arith) in
    let first : IsRemainder (bit_xor (c.args.crc / 256) c.args.first * 2 ^ 40) c.entry_40.result = rw c.entry_40.ensures (table_40_rule _ 0 place) in
    let second : IsRemainder (bit_xor (bit_and c.args.crc 255) c.args.second * 2 ^ 32) c.entry_32.result = rw c.entry_32.ensures (table_32_rule _ 0 next) in
    let third : IsRemainder (c.args.third * 2 ^ 24) c.entry_24.result = rw c.entry_24.ensures (table_24_rule _ 0 (omega arith)) in
    let fourth : IsRemainder (c.args.fourth * 2 ^ 16) c.entry.result = rw c.entry.ensures (table_rule _ 0 (omega arith)) in
    divided_by_four n c.args.crc c.args.first c.args.second c.args.third c.args.fourth (c.args.crc / 256) (bit_and c.args.crc 255) _
    before (omega arith) (omega arith) (omega arith) (omega arith) parts low
    (looked_up (bit_xor (c.args.crc / 256) c.args.first) (bit_xor (bit_and c.args.crc 255) c.args.second) c.args.third c.args.fourth c.entry_40.result c.entry_32.result c.entry_24.result c.entry.result first second third fourth)
