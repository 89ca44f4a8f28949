use Rattle.std.proofs.Common.{ap, sym, ◌∙◌}
use Rattle.std.specs.FinMap.{insert, get}
use Rattle.slot_keyspace.specs.KeyspaceView.{store_of, IsKey}
use Rattle.std.proofs.lemmas.Map.Views.{All-keys-insert_entry}
use Rattle.slot_keyspace.proofs.Batches.{on_err}
use Rattle.slot_keyspace.proofs.Places.{store_of-insert_entry, get-store_of, key_order}
use Rattle.slot_keyspace.proofs.slot_keys.SlotKeys.put.Goals as goal

pub invariant_of-self-2 : goal.invariant_of-self-2
invariant_of-self-2 c = rw c.in_ok-insert.ensures.entries (All-keys-insert_entry key_order c.into_vec.result c.args.value IsKey c.self.inside.map.entries c.self.invariant c.into_vec.ensures.limit)

pub returns-clause-ok : goal.returns-clause-ok
returns-clause-ok c =
    ap store_of c.in_ok-insert.ensures.entries
    ∙ store_of-insert_entry c.self.inside.map.entries c.into_vec.result c.args.value
    ∙ (λ i. insert (store_of c.self.inside.map.entries) (c.into_vec.ensures.value i) c.args.value)
    ∙ ap (λ s. insert s c.args.key c.args.value) c.self.view_is

pub returns-clause-old : goal.returns-clause-old
returns-clause-old c =
    c.in_ok-insert.ensures.old
    ∙ sym (get-store_of c.self.inside.map.entries c.into_vec.result.items)
    ∙ (λ i. get (c.self.view_is i) (c.into_vec.ensures.value i))

pub returns-in_err-insert-clause-absent : goal.returns-in_err-insert-clause-absent
returns-in_err-insert-clause-absent c =
    on_err c.from_residual.result _
    ((λ i. get (sym c.self.view_is i) (sym c.into_vec.ensures.value i))
    ∙ get-store_of c.self.inside.map.entries c.into_vec.result.items
    ∙ c.in_err-insert.ensures.absent)
