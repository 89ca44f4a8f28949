use Rattle.script_lines.proofs.Batches.{distinct_keys}
use Rattle.std.proofs.Common.{arith}
use Rattle.script_lines.proofs.migration.are_distinct.Goals as goal

pub returns-clause-distinct : goal.returns-clause-distinct
returns-clause-distinct c = distinct_keys c.loop-key.seen c.args.keys.now c.loop-key.key-index c.len.result c.loop-key.invariant (omega (arith, c.loop-key-test.false)) c.len.ensures.count c.len.ensures.distinct
