use Rattle.std.proofs.Common.{◌≡◌}
use Rattle.loopback_servers.proofs.Verdicts.{judged_at, judged_with, out_of_memory}
use Rattle.loopback_servers.specs.declared.unserved.Unserved.{Unserved}
use Rattle.loopback_servers.specs.declared.unserved.Unserved.TheVariants as unserved
use Rattle.loopback_servers.proofs.serving.serve_and_explain.Goals as goal

pub returns-in-Ok-clause-judged : goal.returns-in-Ok-clause-judged
returns-in-Ok-clause-judged g c =
    judged_with g.W.ByteOut.took g.W.ByteOut.failures c.args.options.now c.args.plan c.args.writer.now c.serve_plan.new.writer c.in-Ok.status
    c.in-Ok.ensures.judged

pub returns-in-Err-Memory-clause-judged : goal.returns-in-Err-Memory-clause-judged
returns-in-Err-Memory-clause-judged g c =
    out_of_memory g.W.ByteOut.took g.W.ByteOut.failures c.args.options.now c.args.plan c.args.writer.now c.serve_plan.new.writer
    c.announce-written.new.writer c.in-Err-Memory.field-0 c.in-Err-Memory.field-0-is c.in-Err-Memory.ensures.failed c.announce-written.ensures.wrote

unwritten : (e : Unserved) → e ≡ unserved.Unwritten → e ≡ unserved.Memory → ⊥
unwritten e is other = absurd cc

pub returns-in-Err-Unwritten-clause-judged : goal.returns-in-Err-Unwritten-clause-judged
returns-in-Err-Unwritten-clause-judged g c =
    judged_at g.W.ByteOut.took g.W.ByteOut.failures c.args.options.now c.args.plan c.args.writer.now c.serve_plan.new.writer _
    c.in-Err-Unwritten.field-0 (unwritten c.in-Err-Unwritten.field-0 c.in-Err-Unwritten.field-0-is) c.in-Err-Unwritten.ensures.failed
