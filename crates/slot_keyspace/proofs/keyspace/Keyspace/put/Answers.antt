use Rattle.std.proofs.Common.{◌≡◌, IfOk, Some, ap, subst, ◌∙◌}
use Rattle.std.proofs.lemmas.Result.{on_ok_weaker}
use Rattle.std.specs.FinMap.{get, insert}
use Rattle.key_slots.specs.HashSlot.{slot_of}
use Rattle.slot_keyspace.proofs.Union.{get-found, by_slot-put, union-changed}
use Rattle.slot_keyspace.proofs.keyspace.Keyspace.put.Goals as goal

pub invariant_of-self : goal.invariant_of-self
invariant_of-self c =
    by_slot-put c.self.inside.slots.items c.place_of-place.result c.index_mut.result.now c.self.invariant c.place_of-place.ensures.within c.index_mut.ensures.value c.put.result c.put.new.self c.args.key c.args.value
    (c.place_of-place.ensures.value ∙ ap slot_of c.get.ensures.value) c.put.ensures.ok c.put.ensures.err

pub returns-clause-old : goal.returns-clause-old
returns-clause-old c =
    subst (λ o. IfOk c.put.result (λ old. old ≡ o))
    (get-found c.self.inside.slots.items c.place_of-place.result c.index_mut.result.now c.self.invariant c.place_of-place.ensures.within c.index_mut.ensures.value c.args.key (c.place_of-place.ensures.value ∙ ap slot_of c.get.ensures.value) ∙ ap (λ s. get s c.args.key) c.self.view_is)
    c.put.ensures.old

pub returns-clause-ok : goal.returns-clause-ok
returns-clause-ok c =
    on_ok_weaker c.put.result
    (λ e. union-changed c.self.inside.slots.items c.place_of-place.result c.index_mut.result.now c.self.invariant c.place_of-place.ensures.within c.index_mut.ensures.value c.put.new.self c.args.key (Some c.args.value) (c.place_of-place.ensures.value ∙ ap slot_of c.get.ensures.value) e
    ∙ ap (λ s. insert s c.args.key c.args.value) c.self.view_is)
    c.put.ensures.ok
