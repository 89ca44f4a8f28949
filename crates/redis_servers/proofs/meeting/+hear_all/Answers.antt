use Rattle.std.proofs.Common.{◌≡◌, ◌∷◌, List, arith, Ok, Err, subst}
use Rattle.redis_servers.proofs.Listeners.{first_one, hears_late, hears_more, hears_none, last_text, later_ones}
use Rattle.redis_servers.specs.Asking.{AsksNode}
use Rattle.redis_servers.specs.Meeting.{Hears}
use Rattle.redis_servers.specs.Unmet.{late_text}
use Rattle.redis_servers.specs.declared.hearers.Hearer.{Hearer}
use Rattle.redis_servers.proofs.meeting.+hear_all.Goals as goal

pub returns-in-Ok-true-clause-heard : goal.returns-in-Ok-true-clause-heard
returns-in-Ok-true-clause-heard g t c =
    let hearers : List Hearer = c.args.hearers.now in
    let h : Hearer = c.hearer-item.result in
    let is : hearers ≡ h ∷ later_ones hearers = first_one hearers h (omega arith) c.hearer-item.is in
    let asks = AsksNode (record { gave = g.I.ByteIn.gave; took = g.O.ByteOut.took }) in
    hears_more asks c.args.setup.now c.args.history.now hearers (later_ones hearers) h c.args.links.now.items
    c.hears.new.links.items c.hear_all.new.links.items c.hear_all.result is
    (subst (λ b. Hears asks c.args.setup.now c.args.history.now h c.args.links.now.items (Ok b) c.hears.new.links.items)
    c.in-Ok-true.field-0-test c.in-Ok-true.ensures.hears)
    c.hear_all.ensures.heard

pub returns-in-Ok-false-clause-heard : goal.returns-in-Ok-false-clause-heard
returns-in-Ok-false-clause-heard g t c =
    let hearers : List Hearer = c.args.hearers.now in
    let h : Hearer = c.hearer-item.result in
    let is : hearers ≡ h ∷ later_ones hearers = first_one hearers h (omega arith) c.hearer-item.is in
    let asks = AsksNode (record { gave = g.I.ByteIn.gave; took = g.O.ByteOut.took }) in
    let said : c.in-Some.text ≡ late_text h =
    last_text c.args.texts.now.items c.pop.new.self.items c.in-Some.text hearers (later_ones hearers) h
    c.requires.texts c.in-Some.ensures.items is in
    hears_late asks c.args.setup.now c.args.history.now hearers (later_ones hearers) h c.args.links.now.items
    c.hears.new.links.items c.in-Some.text is said
    (subst (λ b. Hears asks c.args.setup.now c.args.history.now h c.args.links.now.items (Ok b) c.hears.new.links.items)
    c.in-Ok-false.field-0-test c.in-Ok-false.ensures.hears)

pub returns-in-Err-clause-heard : goal.returns-in-Err-clause-heard
returns-in-Err-clause-heard g t c =
    let hearers : List Hearer = c.args.hearers.now in
    let h : Hearer = c.hearer-item.result in
    let is : hearers ≡ h ∷ later_ones hearers = first_one hearers h (omega arith) c.hearer-item.is in
    hears_none (AsksNode (record { gave = g.I.ByteIn.gave; took = g.O.ByteOut.took })) c.args.setup.now
    c.args.history.now hearers (later_ones hearers) h c.args.links.now.items c.hears.new.links.items c.in-Err.port_stop is
    c.in-Err.ensures.hears
