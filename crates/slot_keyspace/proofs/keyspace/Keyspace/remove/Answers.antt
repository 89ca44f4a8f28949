use Rattle.std.proofs.Common.{None, ap, ◌∙◌}
use Rattle.std.specs.FinMap.{get, remove}
use Rattle.slot_keyspace.proofs.Union.{get-found, by_slot-changed, union-changed}
use Rattle.slot_keyspace.proofs.keyspace.Keyspace.remove.Goals as goal

pub invariant_of-self : goal.invariant_of-self
invariant_of-self c = by_slot-changed c.self.inside.slots.items c.place_of-place.result c.index_mut.result.now c.self.invariant c.place_of-place.ensures.within c.index_mut.ensures.value c.remove.new.self c.args.key.now None c.place_of-place.ensures.value c.remove.ensures.new

pub returns-clause-old : goal.returns-clause-old
returns-clause-old c =
    c.remove.ensures.old
    ∙ get-found c.self.inside.slots.items c.place_of-place.result c.index_mut.result.now c.self.invariant c.place_of-place.ensures.within c.index_mut.ensures.value c.args.key.now c.place_of-place.ensures.value
    ∙ ap (λ s. get s c.args.key.now) c.self.view_is

pub returns-clause-new : goal.returns-clause-new
returns-clause-new c =
    union-changed c.self.inside.slots.items c.place_of-place.result c.index_mut.result.now c.self.invariant c.place_of-place.ensures.within c.index_mut.ensures.value c.remove.new.self c.args.key.now None c.place_of-place.ensures.value c.remove.ensures.new
    ∙ ap (λ s. remove s c.args.key.now) c.self.view_is
