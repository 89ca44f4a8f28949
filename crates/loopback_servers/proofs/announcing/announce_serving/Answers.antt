use Rattle.std.proofs.Common.{rules, ◌≡◌, ◌∙◌, inr, subst}
use Rattle.loopback_servers.specs.Announcing.{Announces, serving_text}
use Rattle.transcripts.specs.Writing.{Writes}
use Rattle.loopback_servers.proofs.announcing.announce_serving.Goals as goal

pub returns-in_err-announce-clause-wrote : goal.returns-in_err-announce-clause-wrote
returns-in_err-announce-clause-wrote g c =
    let same : c.as_bytes.result.now ≡ serving_text c.args.options.now.nodes c.args.options.now.base_port = c.as_bytes.ensures.value ∙ c.in_ok-line.ensures.ok in
    inr (subst (λ t. Writes g.W.ByteOut.took g.W.ByteOut.failures t c.args.writer.now c.announce.new.writer) same c.announce.ensures.wrote)

pub returns-clause-wrote : goal.returns-clause-wrote
returns-clause-wrote g c =
    let same : c.as_bytes.result.now ≡ serving_text c.args.options.now.nodes c.args.options.now.base_port = c.as_bytes.ensures.value ∙ c.in_ok-line.ensures.ok in
    inr (subst (λ t. Writes g.W.ByteOut.took g.W.ByteOut.failures t c.args.writer.now c.announce.new.writer) same c.announce.ensures.wrote)

pub returns-clause-announced : goal.returns-clause-announced
returns-clause-announced g c =
    let took = g.W.ByteOut.took in
    let failures = g.W.ByteOut.failures in
    let whole : Announces took failures c.as_bytes.result.now c.args.writer.now c.announce.new.writer = search rules in
    let same : c.as_bytes.result.now ≡ serving_text c.args.options.now.nodes c.args.options.now.base_port = c.as_bytes.ensures.value ∙ c.in_ok-line.ensures.ok in
    subst (λ t. Announces took failures t c.args.writer.now c.announce.new.writer) same whole
