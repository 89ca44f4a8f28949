use Rattle.std.proofs.Common.{sym, ap, ◌∙◌}
use Rattle.std.specs.FinMap.{get}
use Rattle.slot_keyspace.proofs.Places.{get-store_of}
use Rattle.slot_keyspace.proofs.slot_keys.SlotKeys.get.Goals as goal

pub returns : goal.returns
returns c = c.get.ensures.value ∙ sym (get-store_of c.self.inside.map.entries c.args.key.now) ∙ ap (λ s. get s c.args.key.now) c.self.view_is
