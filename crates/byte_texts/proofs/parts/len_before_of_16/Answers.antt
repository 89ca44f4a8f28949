use Rattle.std.proofs.Common.{eqb, sym, ap, ◌∙◌, arith, w8}
use lib.Count.{count_trailing_zeros}
use lib.Lanes.{chunk}
use Rattle.std.proofs.lemmas.Simd.{length-chunk, bitmask_splat, leading_from_mask_l, trailing_mask_l}
use Rattle.byte_texts.proofs.parts.len_before_of_16.Goals as goal

pub returns-then-found-eq0 : goal.returns-then-found-eq0
returns-then-found-eq0 c =
    let v = chunk c.args.start 16 c.args.text.now in
    let long = length-chunk c.args.start 16 c.args.text.now c.requires in
    let hits = bitmask_splat w8 eqb v 16 c.args.byte long (omega arith) in
    sym (leading_from_mask_l (λ b. eqb b c.args.byte) v (sym hits ∙ c.if-found-eq0.true) ∙ long)

pub returns-else-found-eq0 : goal.returns-else-found-eq0
returns-else-found-eq0 c =
    let v = chunk c.args.start 16 c.args.text.now in
    let long = length-chunk c.args.start 16 c.args.text.now c.requires in
    let hits = bitmask_splat w8 eqb v 16 c.args.byte long (omega arith) in
    ap (count_trailing_zeros 64) hits ∙ trailing_mask_l (λ b. eqb b c.args.byte) 64 v (omega arith) (omega arith)
