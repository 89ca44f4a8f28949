use Rattle.std.proofs.Common.{sym, ap, ◌∙◌}
use Rattle.std.specs.FinMap.{remove, get}
use Rattle.std.proofs.lemmas.Map.Views.{All-map-remove_entry}
use Rattle.slot_keyspace.specs.KeyspaceView.{store_of, IsKey}
use Rattle.slot_keyspace.proofs.Places.{store_of-remove_entry, get-store_of, key_test}
use Rattle.slot_keyspace.proofs.slot_keys.SlotKeys.remove.Goals as goal

pub invariant_of-self : goal.invariant_of-self
invariant_of-self c = rw c.remove.ensures.entries (All-map-remove_entry (key_test c.args.key.now) (λ e. e.0) IsKey c.self.inside.map.entries c.self.invariant)

pub returns-clause-old : goal.returns-clause-old
returns-clause-old c = c.remove.ensures.value ∙ sym (get-store_of c.self.inside.map.entries c.args.key.now) ∙ ap (λ s. get s c.args.key.now) c.self.view_is

pub returns-clause-new : goal.returns-clause-new
returns-clause-new c =
    ap store_of c.remove.ensures.entries
    ∙ store_of-remove_entry c.args.key.now c.self.inside.map.entries c.len.ensures.ordered
    ∙ ap (λ s. remove s c.args.key.now) c.self.view_is
