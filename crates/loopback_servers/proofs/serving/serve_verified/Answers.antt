use Rattle.std.proofs.Common.{◌≡◌, inr, subst, rules}
use Rattle.std.proofs.lemmas.Result.{IfErr-weaker}
use Rattle.std.specs.Prelude.{IfErr}
use Rattle.loopback_servers.proofs.Served.{is_served_whole}
use Rattle.loopback_servers.proofs.Told.{told_behind}
use Rattle.loopback_servers.proofs.Verdicts.{is_counted, is_judged, verified_failed, verified_judged}
use Rattle.loopback_servers.specs.Announcing.{Announces}
use Rattle.loopback_servers.specs.declared.unserved.Unserved.TheVariants as unserved
use Rattle.transcripts.specs.Writing.{Writes}
use Rattle.loopback_servers.proofs.serving.serve_verified.Goals as goal

pub returns-in-Some-clause-announced : goal.returns-in-Some-clause-announced
returns-in-Some-clause-announced g c = λ even.
    let took = g.W.ByteOut.took in
    let failures = g.W.ByteOut.failures in
    let counted = is_counted took failures c.args.owners c.args.plan c.in_ok-verified.verified c.in-Some.plan _ _ _ c.in-Some.is c.in_ok-verified.ensures.says in
    let whole : Announces took failures c.verify_and_report.new.transcript.printed.items c.args.writer.now c.announce.new.writer = search rules in
    is_served_whole took failures g.met.W.ByteOut.took_then c.args.options.now c.args.owners c.args.plan c.in-Some.plan
    c.args.writer.now c.announce.new.writer c.serve_from.new.writer c.serve_from.result counted.0
    (subst (λ t. Announces took failures t c.args.writer.now c.announce.new.writer) counted.1.2 whole)
    even c.serve_from.ensures.announced

pub returns-in-Some-clause-judged : goal.returns-in-Some-clause-judged
returns-in-Some-clause-judged g c =
    let took = g.W.ByteOut.took in
    let failures = g.W.ByteOut.failures in
    let counted = is_counted took failures c.args.owners c.args.plan c.in_ok-verified.verified c.in-Some.plan _ _ _ c.in-Some.is c.in_ok-verified.ensures.says in
    let whole : Announces took failures c.verify_and_report.new.transcript.printed.items c.args.writer.now c.announce.new.writer = search rules in
    verified_judged (record {
      took = took;
      failures = failures;
      before = c.args.writer.now;
      after = c.serve_from.new.writer;
    }) c.args.options.now c.args.owners c.serve_from.result c.args.plan counted.1.0
    (told_behind took failures g.met.W.ByteOut.took_then c.args.options.now c.args.owners c.args.plan c.in-Some.plan
    c.args.writer.now c.announce.new.writer c.serve_from.new.writer counted.0
    (subst (λ t. Announces took failures t c.args.writer.now c.announce.new.writer) counted.1.2 whole) c.serve_from.ensures.told)

pub returns-in-Some-clause-failed : goal.returns-in-Some-clause-failed
returns-in-Some-clause-failed g c =
    let took = g.W.ByteOut.took in
    let failures = g.W.ByteOut.failures in
    let counted = is_counted took failures c.args.owners c.args.plan c.in_ok-verified.verified c.in-Some.plan _ _ _ c.in-Some.is c.in_ok-verified.ensures.says in
    let whole : Announces took failures c.verify_and_report.new.transcript.printed.items c.args.writer.now c.announce.new.writer = search rules in
    verified_failed (record {
      took = took;
      failures = failures;
      before = c.args.writer.now;
      after = c.serve_from.new.writer;
    }) c.args.options.now c.args.owners c.serve_from.result (c.serve_from.new.writer ≡ c.args.writer.now) c.args.plan counted.1.0
    (told_behind took failures g.met.W.ByteOut.took_then c.args.options.now c.args.owners c.args.plan c.in-Some.plan
    c.args.writer.now c.announce.new.writer c.serve_from.new.writer counted.0
    (subst (λ t. Announces took failures t c.args.writer.now c.announce.new.writer) counted.1.2 whole) c.serve_from.ensures.told)

pub returns-in_err-announce-clause-failed : goal.returns-in_err-announce-clause-failed
returns-in_err-announce-clause-failed g c =
    let took = g.W.ByteOut.took in
    let failures = g.W.ByteOut.failures in
    let wrote : Writes took failures c.verify_and_report.new.transcript.printed.items c.args.writer.now c.announce.new.writer = search rules in
    let failed : IfErr c.from_residual-in_err-announce.result (λ e. e ≡ unserved.Unwritten) = search rules in
    IfErr-weaker c.from_residual-in_err-announce.result _ _ (λ e is. inr
    (is_judged took failures c.args.options.now c.args.owners c.args.plan c.in_ok-verified.verified _ _ _ c.args.writer.now c.announce.new.writer is
    c.in_ok-verified.ensures.says wrote)) failed
