use Rattle.std.proofs.Common.{rules, ◌≡◌, inr, length, subst}
use Rattle.loopback_servers.specs.Announcing.{closed_text}
use Rattle.transcripts.specs.Writing.{Writes}
use Rattle.loopback_servers.proofs.announcing.announce_closed.Goals as goal

pub returns-in_err-announce-clause-wrote : goal.returns-in_err-announce-clause-wrote
returns-in_err-announce-clause-wrote g c =
    let same : c.as_bytes.result.now ≡ closed_text (length c.args.closed.now.trail.events) = search rules in
    inr (subst (λ t. Writes g.W.ByteOut.took g.W.ByteOut.failures t c.args.writer.now c.announce.new.writer) same c.announce.ensures.wrote)

pub returns-clause-wrote : goal.returns-clause-wrote
returns-clause-wrote g c =
    let same : c.as_bytes.result.now ≡ closed_text (length c.args.closed.now.trail.events) = search rules in
    inr (subst (λ t. Writes g.W.ByteOut.took g.W.ByteOut.failures t c.args.writer.now c.announce.new.writer) same c.announce.ensures.wrote)
