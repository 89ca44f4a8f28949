use Rattle.std.proofs.Common.{ap, ◌∙◌}
use Rattle.std.specs.FinMap.{get}
use Rattle.slot_keyspace.proofs.Union.{get-found}
use Rattle.slot_keyspace.proofs.keyspace.Keyspace.get.Goals as goal

pub returns : goal.returns
returns c =
    c.get.ensures
    ∙ get-found c.self.inside.slots.items c.place_of.result c.index.result.now c.self.invariant c.place_of.ensures.within c.index.ensures c.args.key.now c.place_of.ensures.value
    ∙ ap (λ s. get s c.args.key.now) c.self.view_is
