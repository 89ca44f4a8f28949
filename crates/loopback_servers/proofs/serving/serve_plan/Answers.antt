use Rattle.std.proofs.Common.{◌≡◌, ◌≤◌, None, Some, subst, sym}
use Rattle.byte_streams.specs.Streams.{Output}
use Rattle.key_slots.specs.Owners.{IsEvenSplit, Owners}
use Rattle.loopback_servers.specs.Servings.{IsServable}
use Rattle.loopback_servers.specs.declared.options.ServeOptions.{ServeOptions}
use Rattle.loopback_servers.proofs.Verdicts.{alone_failed, alone_judged, split_failed, split_judged}
use Rattle.loopback_servers.proofs.serving.serve_plan.Goals as goal

few : (o : ServeOptions) (t : Owners) → IsServable o → IsEvenSplit o.nodes o.even t → t.nodes ≤ 8
few o t servable even = subst (λ n. n ≤ 8) (sym even.among) servable.2

pub serve_verified-requires-clause-few : goal.serve_verified-requires-clause-few
serve_verified-requires-clause-few g c = λ κs lives. few c.args.options.now c.in_ok-owners.owners c.requires c.in_ok-owners.ensures

pub serve_from-requires-clause-few : goal.serve_from-requires-clause-few
serve_from-requires-clause-few g c = λ κs lives. few c.args.options.now c.in_ok-owners.owners c.requires c.in_ok-owners.ensures

pub returns-in-Some-clause-announced : goal.returns-in-Some-clause-announced
returns-in-Some-clause-announced g c = rw c.in-Some.is (c.serve_verified.ensures.announced c.in_ok-owners.ensures)

pub returns-in-Some-clause-judged : goal.returns-in-Some-clause-judged
returns-in-Some-clause-judged g c =
    let w : Output g.row.W.Denot = (record {
      took = g.W.ByteOut.took;
      failures = g.W.ByteOut.failures;
      before = c.args.writer.now;
      after = c.serve_verified.new.writer;
    }) in rw c.in-Some.is
    (split_judged w c.args.options.now (Some c.in-Some.plan) c.in_ok-owners.owners c.in_ok-owners.ensures c.serve_verified.result
    c.serve_verified.ensures.judged)

pub returns-in-Some-clause-failed : goal.returns-in-Some-clause-failed
returns-in-Some-clause-failed g c =
    let w : Output g.row.W.Denot = (record {
      took = g.W.ByteOut.took;
      failures = g.W.ByteOut.failures;
      before = c.args.writer.now;
      after = c.serve_verified.new.writer;
    }) in rw c.in-Some.is
    (split_failed w c.args.options.now (Some c.in-Some.plan) c.in_ok-owners.owners c.in_ok-owners.ensures c.serve_verified.result
    (c.serve_verified.new.writer ≡ c.args.writer.now) c.serve_verified.ensures.failed)

pub returns-in-None-clause-judged : goal.returns-in-None-clause-judged
returns-in-None-clause-judged g c =
    let w : Output g.row.W.Denot = (record {
      took = g.W.ByteOut.took;
      failures = g.W.ByteOut.failures;
      before = c.args.writer.now;
      after = c.serve_from.new.writer;
    }) in rw c.in-None.is
    (split_judged w c.args.options.now None c.in_ok-owners.owners c.in_ok-owners.ensures c.serve_from.result
    (alone_judged w c.args.options.now c.in_ok-owners.owners c.serve_from.result c.serve_from.ensures.told))

pub returns-in-None-clause-failed : goal.returns-in-None-clause-failed
returns-in-None-clause-failed g c =
    let w : Output g.row.W.Denot = (record {
      took = g.W.ByteOut.took;
      failures = g.W.ByteOut.failures;
      before = c.args.writer.now;
      after = c.serve_from.new.writer;
    }) in rw c.in-None.is
    (split_failed w c.args.options.now None c.in_ok-owners.owners c.in_ok-owners.ensures c.serve_from.result (c.serve_from.new.writer ≡ c.args.writer.now)
    (alone_failed w c.args.options.now c.in_ok-owners.owners c.serve_from.result (c.serve_from.new.writer ≡ c.args.writer.now) c.serve_from.ensures.told))
