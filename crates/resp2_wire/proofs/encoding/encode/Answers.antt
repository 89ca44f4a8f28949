use Rattle.std.proofs.Common.{◌≡◌, refl}
use Rattle.resp2_wire.specs.View.{tree}
use Rattle.resp2_wire.specs.Encoding.{encoding}
use Rattle.resp2_wire.proofs.Again.{decoding_inverts_encoding}
use Rattle.resp2_wire.proofs.WithinLimits.{fits}
use Rattle.resp2_wire.proofs.encoding.encode.Goals as goal

pub returns-clause-whole : goal.returns-clause-whole
returns-clause-whole c =
    let written : c.push_reply.new.out.items ≡ encoding (tree c.args.reply.now) = rw (c.in_ok-push_reply.ensures.encoding, c.in_ok-out.ensures.items) refl in
    λ rest. rw written (decoding_inverts_encoding (tree c.args.reply.now) rest (fits 8 (tree c.args.reply.now) c.requires c.in_ok-push_reply.ensures.typed))
