use Rattle.std.proofs.Common.{◌≡◌, ◌++◌, drop, map}
use Rattle.slot_keyspace.specs.Batches.{batch_of}
use Rattle.slot_keyspace.proofs.keyspace.Keyspace.entries_at.Given as goal

abbrev pub invariant-loop-key : goal.invariant-loop-key
invariant-loop-key l = map (λ e. (e.0.now, e.1.now)) l.batch.items ++ batch_of l.self (drop l.key-index l.keys) ≡ batch_of l.self l.keys
