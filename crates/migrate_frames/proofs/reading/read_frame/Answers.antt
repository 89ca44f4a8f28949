use Rattle.std.proofs.Common.{rules, arith}
use Rattle.migrate_frames.specs.Reading.{frame_at}
use Rattle.migrate_frames.proofs.NoEmptyCollections.{are_bytes, entries_whole}
use Rattle.migrate_frames.proofs.Canonical.{writing_is_canonical}
use Rattle.migrate_frames.proofs.reading.read_frame.Goals as goal

pub returns-clause-read : goal.returns-clause-read
unfolding frame_at
returns-clause-read c = search rules

pub returns-clause-spelled : goal.returns-clause-spelled
returns-clause-spelled c = (writing_is_canonical c.args.bytes.now _ (are_bytes c.args.bytes.now (λ k. omega (arith, c.type_inv.bytes k))) (returns-clause-read c)).0

pub returns-clause-some : goal.returns-clause-some
returns-clause-some c = (writing_is_canonical c.args.bytes.now _ (are_bytes c.args.bytes.now (λ k. omega (arith, c.type_inv.bytes k))) (returns-clause-read c)).1.some

pub returns-clause-few : goal.returns-clause-few
returns-clause-few c = (writing_is_canonical c.args.bytes.now _ (are_bytes c.args.bytes.now (λ k. omega (arith, c.type_inv.bytes k))) (returns-clause-read c)).1.few

pub returns-clause-once : goal.returns-clause-once
returns-clause-once c = (writing_is_canonical c.args.bytes.now _ (are_bytes c.args.bytes.now (λ k. omega (arith, c.type_inv.bytes k))) (returns-clause-read c)).1.once

pub returns-clause-whole : goal.returns-clause-whole
returns-clause-whole c = entries_whole _ (writing_is_canonical c.args.bytes.now _ (are_bytes c.args.bytes.now (λ k. omega (arith, c.type_inv.bytes k))) (returns-clause-read c)).1.each
