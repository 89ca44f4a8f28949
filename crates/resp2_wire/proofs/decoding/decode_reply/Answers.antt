use Rattle.std.proofs.Common.{◌≡◌, ◌-◌, ◌+◌, length, take, arith, ap, ◌∙◌}
use Rattle.std.proofs.lemmas.List.{take_at, length-append}
use Rattle.resp2_wire.specs.Replies.{reply_at, array_at}
use Rattle.resp2_wire.specs.Encoding.{encoding}
use Rattle.resp2_wire.specs.View.{tree}
use Rattle.resp2_wire.proofs.Going.{rest_fits}
use Rattle.resp2_wire.proofs.ReplyStaying.{is_mark, is_array}
use Rattle.resp2_wire.proofs.Spelt.{encoding_is_canonical}
use Rattle.resp2_wire.proofs.WithinLimits.{within}
use Rattle.resp2_wire.proofs.decoding.decode_reply.Goals as goal

pub overflow_sub-result : goal.overflow_sub-result
overflow_sub-result c = (rest_fits (reply_at 8 c.args.bytes.now) _ c.args.bytes.now _ c.in-Ok.ensures.read ((is_mark (array_at 8) (is_array 8)).cuts c.args.bytes.now)).0

pub returns-in-Ok-clause-decodes : goal.returns-in-Ok-clause-decodes
returns-in-Ok-clause-decodes c =
    let fits = rest_fits (reply_at 8 c.args.bytes.now) _ c.args.bytes.now _ c.in-Ok.ensures.read ((is_mark (array_at 8) (is_array 8)).cuts c.args.bytes.now) in
    (omega arith, rw fits.1 c.in-Ok.ensures.read)

pub returns-in-Ok-clause-spelled : goal.returns-in-Ok-clause-spelled
returns-in-Ok-clause-spelled c =
    let whole = (encoding_is_canonical c.args.bytes.now c.in-Ok.rest.now (tree c.in-Ok.reply) c.in-Ok.ensures.read).0 in
    let len : length c.args.bytes.now ≡ length (encoding (tree c.in-Ok.reply)) + length c.in-Ok.rest.now = ap length whole ∙ length-append (encoding (tree c.in-Ok.reply)) c.in-Ok.rest.now in
    let at : length (encoding (tree c.in-Ok.reply)) ≡ length c.args.bytes.now - length c.in-Ok.rest.now = omega arith in
    ap (take (length c.args.bytes.now - length c.in-Ok.rest.now)) whole ∙ take_at (encoding (tree c.in-Ok.reply)) c.in-Ok.rest.now (length c.args.bytes.now - length c.in-Ok.rest.now) at

pub returns-in-Ok-clause-within : goal.returns-in-Ok-clause-within
returns-in-Ok-clause-within c = within 8 (tree c.in-Ok.reply) (encoding_is_canonical c.args.bytes.now c.in-Ok.rest.now (tree c.in-Ok.reply) c.in-Ok.ensures.read).1
