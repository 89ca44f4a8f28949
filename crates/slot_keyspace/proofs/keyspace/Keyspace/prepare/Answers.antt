use Rattle.std.proofs.Common.{◌≡◌, ◌<◌, ◌∙◌, subst}
use Rattle.slot_keyspace.proofs.OneSlot.{prepared-part, answered-part, memory-part}
use Rattle.slot_keyspace.proofs.keyspace.Keyspace.prepare.Goals as goal

pub returns-clause-prepared : goal.returns-clause-prepared
returns-clause-prepared c =
    let place : c.from.result ≡ c.args.slot = c.from.ensures ∙ c.get.ensures.value in
    let inside : c.args.slot < 16384 = subst (λ n. n < 16384) c.get.ensures.value c.get.ensures.within in
    prepared-part c.self.inside.slots.items c.from.result c.args.slot c.index.result.now c.args.self.now c.self.invariant place inside c.index.ensures c.self.view_is
    c.prepare.result c.args.command.now c.requires c.prepare.ensures.change

pub returns-clause-reply : goal.returns-clause-reply
returns-clause-reply c =
    let place : c.from.result ≡ c.args.slot = c.from.ensures ∙ c.get.ensures.value in
    let inside : c.args.slot < 16384 = subst (λ n. n < 16384) c.get.ensures.value c.get.ensures.within in
    answered-part c.self.inside.slots.items c.from.result c.args.slot c.index.result.now c.args.self.now c.self.invariant place inside c.index.ensures c.self.view_is
    c.prepare.result c.args.command.now c.requires c.prepare.ensures.change

pub returns-clause-memory : goal.returns-clause-memory
returns-clause-memory c =
    let place : c.from.result ≡ c.args.slot = c.from.ensures ∙ c.get.ensures.value in
    let inside : c.args.slot < 16384 = subst (λ n. n < 16384) c.get.ensures.value c.get.ensures.within in
    memory-part c.self.inside.slots.items c.from.result c.args.slot c.index.result.now c.args.self.now c.self.invariant place inside c.index.ensures c.self.view_is
    c.prepare.result c.args.command.now c.requires c.prepare.ensures.memory
