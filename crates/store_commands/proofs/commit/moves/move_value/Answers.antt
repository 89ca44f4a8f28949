use Rattle.std.proofs.Common.{Bor, IsSome, sym, ap, subst, ◌∙◌}
use Rattle.std.specs.FinMap.{get, insert, remove}
use Rattle.typed_values.specs.declared.value.Value.{Value}
use Rattle.store_commands.proofs.Stores.{equal_keys, apart_by, missing_by, present_by}
use Rattle.store_commands.proofs.Effects.{move_to_itself, move_nothing, still_there, move_done, move_impossible}
use Rattle.store_commands.proofs.commit.moves.move_value.Goals as goal

pub returns-then-eq-clause-ok : goal.returns-then-eq-clause-ok
returns-then-eq-clause-ok g c =
    move_to_itself _ _ c.both.result.0.now c.both.result.1.now c.both.ensures (sym c.get.ensures.value ∙ equal_keys _ _ (sym c.eq.ensures ∙ c.if-eq.true) ∙ c.get-2.ensures.value)

pub returns-then-is_none-clause-ok : goal.returns-then-is_none-clause-ok
returns-then-is_none-clause-ok g c =
    move_nothing _ _ c.both.result.0.now c.both.result.1.now c.both.ensures (missing_by (λ (v : Bor Value). v.now) c.get-4.result _ _ _ c.get-4.ensures c.get-3.ensures.value c.if-is_none.ensures)

pub exchange-requires : goal.exchange-requires
exchange-requires g c =
    let apart = apart_by _ _ c.both.result.0.now c.both.result.1.now c.eq.result c.eq.ensures c.if-eq.false c.get.ensures.value c.get-2.ensures.value in
    let t = g.E.Entries.entries c.make_place.new.entries in
    let u = g.E.Entries.entries c.remove.new.self in
    subst (λ j. IsSome (get u j)) (sym c.get-in-Some.ensures.value)
    (still_there _ t u c.both.result.0.now c.both.result.1.now _ apart c.in_ok-make_place.ensures.ok (c.remove.ensures.new ∙ ap (remove t) c.get-5.ensures.value))

pub returns-in-Some-clause-ok : goal.returns-in-Some-clause-ok
returns-in-Some-clause-ok g c =
    let apart = apart_by _ _ c.both.result.0.now c.both.result.1.now c.eq.result c.eq.ensures c.if-eq.false c.get.ensures.value c.get-2.ensures.value in
    let t = g.E.Entries.entries c.make_place.new.entries in
    let u = g.E.Entries.entries c.remove.new.self in
    move_done _ t u _ _ c.both.result.0.now c.both.result.1.now _ c.in-Some.value c.both.ensures apart c.in_ok-make_place.ensures.ok
    (c.in-Some.ensures.old ∙ ap (get t) c.get-5.ensures.value)
    (c.remove.ensures.new ∙ ap (remove t) c.get-5.ensures.value)
    (c.exchange.ensures.new ∙ ap (λ j. insert u j c.in-Some.value) c.get-in-Some.ensures.value)

pub returns-in-None-clause-ok : goal.returns-in-None-clause-ok
returns-in-None-clause-ok g c =
    let apart = apart_by _ _ c.both.result.0.now c.both.result.1.now c.eq.result c.eq.ensures c.if-eq.false c.get.ensures.value c.get-2.ensures.value in
    let t = g.E.Entries.entries c.make_place.new.entries in
    move_impossible _ t _ _ c.both.result.0.now c.both.result.1.now _ apart c.in_ok-make_place.ensures.ok
    (present_by (λ (v : Bor Value). v.now) c.get-4.result _ _ _ c.get-4.ensures c.get-3.ensures.value c.if-is_none.ensures)
    (c.in-None.ensures.old ∙ ap (get t) c.get-5.ensures.value)
