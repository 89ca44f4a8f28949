use Rattle.std.proofs.Common.{not, sym, ap, ◌∙◌, arith}
use lib.Count.{count_trailing_zeros}
use lib.Lanes.{chunk}
use Rattle.std.proofs.lemmas.Simd.{length-chunk, leading_from_mask_l, trailing_mask_l}
use Rattle.transcripts.specs.Printing.{stands_for_itself}
use Rattle.transcripts.proofs.Plain.{not_escaped}
use Rattle.transcripts.proofs.printing.plain_len_of_16.Goals as goal

pub returns-then-escaped-eq0 : goal.returns-then-escaped-eq0
returns-then-escaped-eq0 c =
    let v = chunk c.args.start 16 c.args.bytes.now in
    let long = length-chunk c.args.start 16 c.args.bytes.now c.requires in
    let none = sym c.escaped_of_16-escaped.ensures ∙ c.if-escaped-eq0.true in
    sym long ∙ sym (leading_from_mask_l (λ b. not (stands_for_itself b)) v none) ∙ not_escaped stands_for_itself v

pub returns-else-escaped-eq0 : goal.returns-else-escaped-eq0
returns-else-escaped-eq0 c =
    let v = chunk c.args.start 16 c.args.bytes.now in
    let long = length-chunk c.args.start 16 c.args.bytes.now c.requires in
    let escaped = c.escaped_of_16-escaped.ensures in
    ap (count_trailing_zeros 64) escaped
    ∙ trailing_mask_l (λ b. not (stands_for_itself b)) 64 v (omega arith) (omega arith)
    ∙ not_escaped stands_for_itself v
