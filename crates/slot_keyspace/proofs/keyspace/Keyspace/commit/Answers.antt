use Rattle.std.proofs.Common.{◌≡◌, ◌<◌, ◌∙◌, subst}
use Rattle.slot_keyspace.proofs.OneSlot.{by_slot-commit, union-commit}
use Rattle.slot_keyspace.proofs.keyspace.Keyspace.commit.Goals as goal

pub invariant_of-self : goal.invariant_of-self
invariant_of-self c =
    let place : c.from-place.result ≡ c.args.slot = c.from-place.ensures ∙ c.get.ensures.value in
    let inside : c.args.slot < 16384 = subst (λ n. n < 16384) c.get.ensures.value c.get.ensures.within in
    by_slot-commit c.self.inside.slots.items c.from-place.result c.args.slot c.index_mut.result.now c.args.self.now c.self.invariant place inside c.index_mut.ensures.value c.self.view_is
    c.commit.result c.requires.0 c.args.change c.commit.new.entries c.requires.1 c.commit.ensures.ok c.commit.ensures.err

pub returns-clause-ok : goal.returns-clause-ok
returns-clause-ok c =
    let place : c.from-place.result ≡ c.args.slot = c.from-place.ensures ∙ c.get.ensures.value in
    let inside : c.args.slot < 16384 = subst (λ n. n < 16384) c.get.ensures.value c.get.ensures.within in
    union-commit c.self.inside.slots.items c.from-place.result c.args.slot c.index_mut.result.now c.args.self.now c.self.invariant place inside c.index_mut.ensures.value c.self.view_is
    c.commit.result c.args.change c.commit.new.entries c.commit.ensures.ok
