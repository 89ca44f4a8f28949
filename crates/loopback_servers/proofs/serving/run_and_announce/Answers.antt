use Rattle.std.proofs.Common.{rules}
use Rattle.loopback_servers.proofs.Told.{may_tell_end, run_beside, told_run}
use Rattle.loopback_servers.specs.Telling.{IsRunBeside}
use Rattle.loopback_servers.proofs.serving.run_and_announce.Goals as goal

pub returns-in-Ok-clause-announced : goal.returns-in-Ok-clause-announced
returns-in-Ok-clause-announced g c = rw c.in-Some.is
    (run_beside g.W.ByteOut.took g.W.ByteOut.failures c.in-Some.plan c.args.admin c.run_beside-admin.result.0 c.run_beside-admin.result.1
    c.in-Ok.status c.args.writer.now c.announce_end.new.writer c.run_beside-admin.ensures c.in-Ok.ensures.status c.in-Ok.ensures.announced)

pub returns-in-Ok-clause-told : goal.returns-in-Ok-clause-told
returns-in-Ok-clause-told g c = rw c.in-Some.is
    (may_tell_end g.W.ByteOut.took g.W.ByteOut.failures c.in-Some.plan c.args.admin c.run_beside-admin.result.0 c.run_beside-admin.result.1
    c.args.writer.now c.announce_end.new.writer c.run_beside-admin.ensures c.announce_end.ensures.wrote)

pub returns-in-Err-clause-told : goal.returns-in-Err-clause-told
returns-in-Err-clause-told g c = rw c.in-Some.is
    (may_tell_end g.W.ByteOut.took g.W.ByteOut.failures c.in-Some.plan c.args.admin c.run_beside-admin.result.0 c.run_beside-admin.result.1
    c.args.writer.now c.announce_end.new.writer c.run_beside-admin.ensures c.announce_end.ensures.wrote)

pub returns-in_default-clause-told : goal.returns-in_default-clause-told
returns-in_default-clause-told g c =
    let run : IsRunBeside (record {
      took = g.W.ByteOut.took;
      failures = g.W.ByteOut.failures;
      before = c.args.writer.now;
      after = c.args.writer.now;
    }) c.args.plan c.args.admin c.args.admin 0 = search rules in
    told_run g.W.ByteOut.took g.W.ByteOut.failures c.args.plan c.args.admin c.args.admin 0 c.args.writer.now c.args.writer.now run
