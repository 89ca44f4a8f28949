use Rattle.std.proofs.Common.{length, ap, ◌∙◌}
use Rattle.std.specs.FinMap.{keys}
use Rattle.slot_keyspace.proofs.Listing.{count-store_of}
use Rattle.slot_keyspace.proofs.slot_keys.SlotKeys.len.Goals as goal

pub returns : goal.returns
returns c =
    c.len.ensures.len
    ∙ count-store_of c.self.inside.map.entries c.len.ensures.ordered
    ∙ ap (λ s. length (keys s)) c.self.view_is
