use Rattle.std.proofs.Common.{Some, IsSome, subst, sym, ap, ◌∙◌}
use Rattle.std.specs.FinMap.{get, insert}
use Rattle.slot_keyspace.proofs.Union.{get-found, by_slot-changed, union-changed}
use Rattle.slot_keyspace.proofs.keyspace.Keyspace.exchange.Goals as goal

pub exchange-requires : goal.exchange-requires
exchange-requires c =
    subst IsSome
    (sym (get-found c.self.inside.slots.items c.place_of-place.result c.index_mut.result.now c.self.invariant c.place_of-place.ensures.within c.index_mut.ensures.value c.args.key.now c.place_of-place.ensures.value ∙ ap (λ s. get s c.args.key.now) c.self.view_is))
    c.requires

pub invariant_of-self : goal.invariant_of-self
invariant_of-self c = by_slot-changed c.self.inside.slots.items c.place_of-place.result c.index_mut.result.now c.self.invariant c.place_of-place.ensures.within c.index_mut.ensures.value c.exchange.new.self c.args.key.now (Some c.args.value) c.place_of-place.ensures.value c.exchange.ensures.new

pub returns-clause-old : goal.returns-clause-old
returns-clause-old c =
    sym (get-found c.self.inside.slots.items c.place_of-place.result c.index_mut.result.now c.self.invariant c.place_of-place.ensures.within c.index_mut.ensures.value c.args.key.now c.place_of-place.ensures.value ∙ ap (λ s. get s c.args.key.now) c.self.view_is)
    ∙ c.exchange.ensures.old

pub returns-clause-new : goal.returns-clause-new
returns-clause-new c =
    union-changed c.self.inside.slots.items c.place_of-place.result c.index_mut.result.now c.self.invariant c.place_of-place.ensures.within c.index_mut.ensures.value c.exchange.new.self c.args.key.now (Some c.args.value) c.place_of-place.ensures.value c.exchange.ensures.new
    ∙ ap (λ s. insert s c.args.key.now c.args.value) c.self.view_is
