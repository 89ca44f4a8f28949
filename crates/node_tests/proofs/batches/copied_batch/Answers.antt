use Rattle.std.proofs.Common.{IfOk, sym, subst, ap, ◌∙◌}
use Rattle.slot_keyspace.proofs.Distinct.{once-copies}
use Rattle.node_tests.proofs.batches.copied_batch.Goals as goal

pub returns-clause-once : goal.returns-clause-once
returns-clause-once c = once-copies c.copy_all.result c.args.source.now c.args.slot c.args.count _ (c.get.ensures ∙ c.in_ok-keys.ensures) c.copy_all.ensures
