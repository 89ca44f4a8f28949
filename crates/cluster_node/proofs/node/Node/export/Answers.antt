use Rattle.std.proofs.Common.{◌≡◌, ◌≤◌, length, map, arith, ap, sym, subst, ◌∙◌}
use Rattle.std.proofs.lemmas.List.{length-map}
use Rattle.migrate_frames.specs.Batches.{Entry, entry_of, entries_of, HasNoEmptyCollection, HasEachKeyOnce}
use Rattle.slot_keyspace.specs.Batches.{batch_of}
use Rattle.slot_keyspace.proofs.Distinct.{once-batch_of}
use Rattle.cluster_node.proofs.Carried.{batch-few, batch-whole}
use Rattle.cluster_node.proofs.node.Node.export.Goals as goal

pub write_frame-requires-clause-few : goal.write_frame-requires-clause-few
write_frame-requires-clause-few c =
    let few = batch-few c.self.inside.held c.args.keys.now in
    let entries : entries_of c.as_slice.result.now ≡ batch_of c.self.inside.held c.args.keys.now =
    ap entries_of c.as_slice.ensures.value ∙ c.in_ok-batch.ensures.entries in
    let count : length c.as_slice.result.now ≡ length (batch_of c.self.inside.held c.args.keys.now) =
    sym (length-map c.as_slice.result.now entry_of) ∙ ap length entries in
    omega (arith, few, count, c.requires.most)

pub write_frame-requires-clause-once : goal.write_frame-requires-clause-once
write_frame-requires-clause-once c =
    subst HasEachKeyOnce (sym (ap entries_of c.as_slice.ensures.value ∙ c.in_ok-batch.ensures.entries)) (once-batch_of c.self.inside.held c.args.keys.now c.requires.distinct)

pub write_frame-requires-clause-whole : goal.write_frame-requires-clause-whole
write_frame-requires-clause-whole c =
    subst HasNoEmptyCollection (sym (ap entries_of c.as_slice.ensures.value ∙ c.in_ok-batch.ensures.entries)) (batch-whole c.self.inside.held c.args.keys.now c.self.invariant.whole)
