use Rattle.std.proofs.Common.{sym, ap, subst, ◌∙◌}
use Rattle.std.proofs.lemmas.Result.{on_ok_weaker}
use Rattle.store_commands.specs.Store.{after_writes, HasDistinctKeys}
use Rattle.slot_keyspace.proofs.Batches.{written-writes_of, distinct-writes_of}
use Rattle.slot_keyspace.proofs.keyspace.Keyspace.put_all.Goals as goal

pub write_each-requires : goal.write_each-requires
write_each-requires c = subst HasDistinctKeys (sym c.in_ok-writes.ensures) (distinct-writes_of c.args.batch.items c.requires)

pub returns-clause-ok : goal.returns-clause-ok
returns-clause-ok c =
    let whole = ap (after_writes c.args.self.now) c.in_ok-writes.ensures ∙ written-writes_of c.args.self.now c.args.batch.items in
    on_ok_weaker c.write_each.result (λ h. h ∙ whole) c.write_each.ensures.ok
