-- Each kind of step keeps the rule.
use Rattle.std.proofs.Common.{◌≡◌, ◌≢◌, ◌⊎◌, ℕ, zero, suc, ◌<◌, ◌==◌, List, [], ◌∷◌, ◌++◌, length, set, eqb, eq-eqb, ne_eqb, Some, None, Bool, false, refl, sym, ap, ◌∙◌, subst, inl, inr, ⊎_elim, arith}
use Rattle.std.specs.declared.option.Option.{Option as Maybe}
use Rattle.std.specs.Prelude.{slice_set, if◌then◌else◌, ◌||◌}
use prog.Atomic.{either}
use mathlib.Core.Option.{some, none, some-ne-none, some-injective}
use lib.ListN.{get_elem?}
use Rattle.atomic_table.specs.Table.{Me, Step, step, keeps, Allows, Splits, Joins}
use Rattle.atomic_table.proofs.Lists.{at_set, set_here, set_else, set_again}
use Rattle.cluster_world.specs.Worlds.{World}
use Rattle.cluster_world.specs.declared.event.Event.{Event}
use Rattle.shared_trail.specs.declared.view.Part.{Part}
use Rattle.shared_trail.specs.declared.view.Ledger.{Ledger}
use Rattle.shared_trail.specs.declared.view.View.{View}
use Rattle.cluster_world.specs.Earning.{world_after}
use Rattle.shared_trail.specs.Trails.{IsTrail, parts_of, among}
use Rattle.shared_trail.specs.Rule.{keeper, holder, both, empty_view, with_flight, with_event, with_part, with_seat, without_seat, opening_ledger, part_after, IsSound, Fits, Kept, Tied, DealStep, BeginStep, TakeStep, EndStep, ShowStep, SettleStep, together, left_of, right_of, first_view}

pub at_some : {A : Type 0} (l : List A) (i : ℕ) (a : A) → get_elem? l i ≡ some a → i < length l
at_some [] i a e = absurd (some-ne-none a (sym e))
at_some (x ∷ xs) zero a e = omega arith
at_some (x ∷ xs) (suc i) a e = let h = at_some xs i a e in omega arith

-- what stands in a list that is one longer
pub at_end : {A : Type 0} (l : List A) (a b : A) (j : ℕ) → get_elem? (l ++ a ∷ []) j ≡ some b → (get_elem? l j ≡ some b) ⊎ ((j ≡ length l) × (a ≡ b))
at_end [] a b zero e = inr (refl, some-injective a b e)
at_end [] a b (suc j) e = absurd (some-ne-none b (sym e))
at_end (x ∷ xs) a b zero e = inl e
at_end (x ∷ xs) a b (suc j) e = ⊎_elim (λ t. inl t) (λ t. inr (ap suc t.0, t.1)) (at_end xs a b j e)

abbrev pub picked : ℕ → ℕ → (ℕ → ℕ) → ℕ → ℕ
picked k id f j = if eqb j k then id else f j

picked_here : (k id : ℕ) (f : ℕ → ℕ) → picked k id f k ≡ id
picked_here k id f = ap (λ (b : Bool). if b then id else f k) (eq-eqb k k refl)

picked_else : (k id : ℕ) (f : ℕ → ℕ) (j : ℕ) → j ≢ k → picked k id f j ≡ f j
picked_else k id f j ne = ap (λ (b : Bool). if b then id else f j) (ne_eqb j k ne)

-- the trail's seat changes its view, and with it the ledger
pub moves : (w : World) (views : List View) (id : ℕ) (v u : View) (b c : Ledger) (seats : ℕ → ℕ)
    → (h : Kept w views) → get_elem? views id ≡ some v → v.ledger ≡ Some b → IsSound w c → u.ledger ≡ Some c
    → ((j k : ℕ) (p : Part) → j ≢ id → j ≡ h.seat_of k → k < b.made → get_elem? b.parts k ≡ some p → among k b.gone ≡ false
    → (j ≡ seats k) × (k < c.made) × (get_elem? c.parts k ≡ some p) × (among k c.gone ≡ false))
    → ((k : ℕ) (p : Part) → u.part ≡ Some (k, p) → (id ≡ seats k) × (k < c.made) × (get_elem? c.parts k ≡ some p) × (among k c.gone ≡ false))
    → Kept w (slice_set views id u)
moves w views id v u b c seats h at is sound new others mine =
    let known = (h.fits id v at).ledger b is in record {
      keeps = h.keeps;
      seat_of = seats;
      ledger = c;
      sound = sound;
      fits = λ j x e. ⊎_elim
          (λ (t : (j ≡ id) × (u ≡ x)). subst (λ (y : ℕ × View). Fits h.keeps seats c y.0 y.1) (λ i. (sym t.0 i, t.1 i)) record {
            ledger = λ d e'. (known.0, cc);
            part = mine;
          })
          (λ (t : (j ≢ id) × (get_elem? views j ≡ some x)). let f = h.fits j x t.1 in record {
            ledger = λ d e'. absurd (t.0 ((f.ledger d e').0 ∙ sym known.0));
            part = λ k p e'. let g = f.part k p e' in others j k p t.0 g.0 (subst (λ (y : Ledger). k < y.made) (sym known.1) g.1) (subst (λ (y : Ledger). get_elem? y.parts k ≡ some p) (sym known.1) g.2) (subst (λ (y : Ledger). among k y.gone ≡ false) (sym known.1) g.3);
          })
          (at_set views id j u x e);
    }

-- the same where only the trail's own part of the ledger changes
pub recorded : (w : World) (views : List View) (id : ℕ) (b c : Ledger)
    → (h : Kept w views) → get_elem? views id ≡ some (keeper b) → IsSound w c → c.parts ≡ b.parts → c.made ≡ b.made → c.gone ≡ b.gone → Kept w (slice_set views id (keeper c))
recorded w views id b c h at is parts made gone =
    moves w views id (keeper b) (keeper c) b c h.seat_of h at refl is refl
    (λ j k p ne here low there away. (here, subst (λ m. k < m) (sym made) low, subst (λ l. get_elem? l k ≡ some p) (sym parts) there, subst (λ l. among k l ≡ false) (sym gone) away))
    (λ k p e. absurd cc)

ledger_is : (me : Me Event View) (b b' : Ledger) (q q' : Maybe (ℕ × Part)) → me ≡ (record { ledger = Some b; part = q }, []) → me ≡ (record { ledger = Some b'; part = q' }, []) → b ≡ b'
ledger_is me b b' q q' x y =
    let e : Some b ≡ Some b' = ap (λ (m : Me Event View). m.0.ledger) (sym x ∙ y) in cc e

pair_is : (k k' : ℕ) (p p' : Part) → ◌≡◌ {A = Maybe (ℕ × Part)} (Some (k, p)) (Some (k', p')) → (k ≡ k') × (p ≡ p')
pair_is k k' p p' e = let e' : ◌≡◌ {A = ℕ × Part} (k, p) (k', p') = cc e in (ap (λ (x : ℕ × Part). x.0) e', ap (λ (x : ℕ × Part). x.1) e')

part_is : (me : Me Event View) (b b' : Ledger) (k k' : ℕ) (p p' : Part) → me ≡ (both b k p, []) → me ≡ (both b' k' p', []) → (k ≡ k') × (p ≡ p')
part_is me b b' k k' p p' x y =
    let e : ◌≡◌ {A = Maybe (ℕ × Part)} (Some (k, p)) (Some (k', p')) = ap (λ (m : Me Event View). m.0.part) (sym x ∙ y) in pair_is k k' p p' e

pub begins : (w : World) (slots id i : ℕ) (f : ℕ → ℕ) (me : Me Event View) (s : Step Event) (b : Ledger) (e : Event)
    → me ≡ (keeper b, []) → s.said ≡ some e → Allows (Tied w) slots id me i f (BeginStep s me)
begins w slots id i f me s b e is said table h len at low =
    let at' : get_elem? table.views id ≡ some (keeper b) = at ∙ ap (λ (m : Me Event View). some m.0) is in
    let known = (h.fits id (keeper b) at').ledger b refl in (
      keeper (with_flight e b),
      keeps,
      tt,
      recorded w table.views id b (with_flight e b) h at' record {
        run = subst (λ (c : Ledger). IsTrail w c.events) (sym known.1) h.sound.run;
        world = subst (λ (c : Ledger). c.world ≡ world_after w c.events) (sym known.1) h.sound.world;
        whole = λ none. absurd (cc none);
      } refl refl refl,
      λ b' e' is' said' j. (keeper (with_flight (some-injective _ _ (sym said ∙ said') j) (ledger_is me b b' None None is is' j)), ap (λ (m : Me Event View). m.1) is j),
    )

pub ends : (w : World) (slots id i : ℕ) (f : ℕ → ℕ) (me : Me Event View) (s : Step Event) (b : Ledger) (e : Event)
    → me ≡ (keeper b, []) → b.flight ≡ Some e → IsSound w (with_event e b) → Allows (Tied w) slots id me i f (EndStep s me)
ends w slots id i f me s b e is flies sound table h len at low =
    let at' : get_elem? table.views id ≡ some (keeper b) = at ∙ ap (λ (m : Me Event View). some m.0) is in (
      keeper (with_event e b),
      keeps,
      tt,
      recorded w table.views id b (with_event e b) h at' sound refl refl refl,
      λ b' e' is' flies' j.
          let same : b ≡ b' = ledger_is me b b' None None is is' in
          let same_event : e ≡ e' = cc (flies, flies', ap (λ (c : Ledger). c.flight) same) in
          (keeper (with_event (same_event j) (same j)), ap (λ (m : Me Event View). m.1) is j),
    )

-- a seat that is joined to the trail's takes the event in flight
pub takes : (w : World) (slots id i : ℕ) (f : ℕ → ℕ) (me : Me Event View) (s : Step Event) (b : Ledger) (k : ℕ) (p : Part) (e : Event)
    → me ≡ (both b k p, []) → b.flight ≡ Some e → Allows (Tied w) slots id me i f (TakeStep s me)
takes w slots id i f me s b k p e is flies table h len at low =
    let at' : get_elem? table.views id ≡ some (both b k p) = at ∙ ap (λ (m : Me Event View). some m.0) is in
    let mine = h.fits id (both b k p) at' in
    let known = mine.ledger b refl in
    let there = mine.part k p refl in
    let low_k : k < b.made = subst (λ (c : Ledger). k < c.made) (sym known.1) there.1 in
    let at_k : get_elem? b.parts k ≡ some p = subst (λ (c : Ledger). get_elem? c.parts k ≡ some p) (sym known.1) there.2 in
    let away : among k b.gone ≡ false = subst (λ (c : Ledger). among k c.gone ≡ false) (sym known.1) there.3 in
    let p' = part_after e b.world k p in
    let c = with_part k p' b in (
      both c k p',
      keeps,
      tt,
      moves w table.views id (both b k p) (both c k p') b c h.seat_of h at' refl
          record {
            run = subst (λ (c : Ledger). IsTrail w c.events) (sym known.1) h.sound.run;
            world = subst (λ (c : Ledger). c.world ≡ world_after w c.events) (sym known.1) h.sound.world;
            whole = λ none. absurd (cc (none, flies));
          }
          refl
          (λ j k' q ne here low there' away'. (here, low, set_else b.parts k k' p' (λ same. ne (here ∙ ap h.seat_of same ∙ sym there.0)) ∙ there', away'))
          (λ k' q e'.
          let pair = pair_is k k' p' q e' in
          let same = pair.0 in
          let same_part = pair.1 in
          (there.0 ∙ ap h.seat_of same, subst (λ m. m < b.made) same low_k, subst (λ m. get_elem? (slice_set b.parts k p') m ≡ some q) same (set_here b.parts k p' (at_some b.parts k p at_k) ∙ ap some same_part), subst (λ m. among m b.gone ≡ false) same away)),
      λ b' k'' p'' e' is' flies'.
          let same : b ≡ b' = ledger_is me b b' (Some (k, p)) (Some (k'', p'')) is is' in
          let same_part = part_is me b b' k k'' p p'' is is' in
          let same_event : e ≡ e' = cc (flies, flies', ap (λ (c : Ledger). c.flight) same) in (
            subst (λ (y : Ledger × ℕ × Part). get_elem? y.0.parts y.1 ≡ some y.2) (λ j. (same j, same_part.0 j, same_part.1 j)) at_k,
            λ j. (both (with_part (same_part.0 j) (part_after (same_event j) (same j).world (same_part.0 j) (same_part.1 j)) (same j)) (same_part.0 j) (part_after (same_event j) (same j).world (same_part.0 j) (same_part.1 j)), ap (λ (m : Me Event View). m.1) is j),
          ),
    )

-- a look at two joined views
pub shows : (w : World) (slots id i : ℕ) (f : ℕ → ℕ) (me : Me Event View) (s : Step Event) (b : Ledger) (k : ℕ) (p : Part)
    → me ≡ (both b k p, []) → Allows (Tied w) slots id me i f (ShowStep s me)
shows w slots id i f me s b k p is table h len at low =
    let at' : get_elem? table.views id ≡ some (both b k p) = at ∙ ap (λ (m : Me Event View). some m.0) is in
    let mine = h.fits id (both b k p) at' in
    let known = mine.ledger b refl in
    let there = mine.part k p refl in
    let at_k : get_elem? b.parts k ≡ some p = subst (λ (c : Ledger). get_elem? c.parts k ≡ some p) (sym known.1) there.2 in (
      me.0,
      keeps,
      tt,
      subst (Kept w) (sym (set_again table.views id me.0 at)) h,
      (
        refl,
        λ b' k'' p'' is'.
            let same : b ≡ b' = ledger_is me b b' (Some (k, p)) (Some (k'', p'')) is is' in
            let same_part = part_is me b b' k k'' p p'' is is' in
            subst (λ (y : Ledger × ℕ × Part). get_elem? y.0.parts y.1 ≡ some y.2) (λ j. (same j, same_part.0 j, same_part.1 j)) at_k,
      ),
    )

-- a seat that is joined to the trail's is given back, and no other has its part
pub settles : (w : World) (slots id i : ℕ) (f : ℕ → ℕ) (me : Me Event View) (s : Step Event) (b : Ledger) (k : ℕ) (p : Part)
    → me ≡ (both b k p, []) → Allows (Tied w) slots id me i f (SettleStep s me)
settles w slots id i f me s b k p is table h len at low =
    let at' : get_elem? table.views id ≡ some (both b k p) = at ∙ ap (λ (m : Me Event View). some m.0) is in
    let mine = h.fits id (both b k p) at' in
    let known = mine.ledger b refl in
    let there = mine.part k p refl in
    let at_k : get_elem? b.parts k ≡ some p = subst (λ (c : Ledger). get_elem? c.parts k ≡ some p) (sym known.1) there.2 in
    let away : among k b.gone ≡ false = subst (λ (c : Ledger). among k c.gone ≡ false) (sym known.1) there.3 in
    let c = without_seat k b in (
      keeper c,
      keeps,
      tt,
      moves w table.views id (both b k p) (keeper c) b c h.seat_of h at' refl
          record {
            run = subst (λ (c : Ledger). IsTrail w c.events) (sym known.1) h.sound.run;
            world = subst (λ (c : Ledger). c.world ≡ world_after w c.events) (sym known.1) h.sound.world;
            whole = subst (λ (c : Ledger). c.flight ≡ None → c.parts ≡ parts_of w c.events) (sym known.1) h.sound.whole;
          }
          refl
          (λ j k' q ne here low there' away'. (here, low, there', ap (λ (x : Bool). x || among k' b.gone) (ne_eqb k' k (λ same. ne (here ∙ ap h.seat_of same ∙ sym there.0))) ∙ away'))
          (λ k' q e. absurd cc),
      λ b' k'' p'' is'.
          let same : b ≡ b' = ledger_is me b b' (Some (k, p)) (Some (k'', p'')) is is' in
          let same_part = part_is me b b' k k'' p p'' is is' in (
            subst (λ (y : Ledger × ℕ × Part). get_elem? y.0.parts y.1 ≡ some y.2) (λ j. (same j, same_part.0 j, same_part.1 j)) at_k,
            subst (λ (y : Ledger × ℕ). among y.1 y.0.gone ≡ false) (λ j. (same j, same_part.0 j)) away,
            λ j. (keeper (without_seat (same_part.0 j) (same j)), ap (λ (m : Me Event View). m.1) is j),
          ),
    )

-- the trail's seat makes the next part
pub deals : (w : World) (slots id i : ℕ) (f : ℕ → ℕ) (me : Me Event View) (s : Step Event) (b : Ledger) (p : Part)
    → me ≡ (keeper b, []) → b.gone ≡ [] → get_elem? b.parts b.made ≡ some p → Allows (Tied w) slots id me i f (DealStep s me)
deals w slots id i f me s b p is bare next table h len at low =
    let at' : get_elem? table.views id ≡ some (keeper b) = at ∙ ap (λ (m : Me Event View). some m.0) is in
    let known = (h.fits id (keeper b) at').ledger b refl in
    let c = with_seat b in
    let seats = picked b.made id h.seat_of in (
      both c b.made p,
      keeps,
      tt,
      moves w table.views id (keeper b) (both c b.made p) b c seats h at' refl
          record {
            run = subst (λ (c : Ledger). IsTrail w c.events) (sym known.1) h.sound.run;
            world = subst (λ (c : Ledger). c.world ≡ world_after w c.events) (sym known.1) h.sound.world;
            whole = subst (λ (c : Ledger). c.flight ≡ None → c.parts ≡ parts_of w c.events) (sym known.1) h.sound.whole;
          }
          refl
          (λ j k q ne here low there away. (here ∙ sym (picked_else b.made id h.seat_of k (λ same. omega arith)), omega arith, there, away))
          (λ k q e.
          let pair = pair_is b.made k p q e in
          let same = pair.0 in
          let same_part = pair.1 in
          (subst (λ m. id ≡ seats m) same (sym (picked_here b.made id h.seat_of)), omega arith, subst (λ m. get_elem? b.parts m ≡ some q) same (next ∙ ap some same_part), ap (among k) bare)),
      λ b' p'' is' bare' next' j.
          let same : b ≡ b' = ledger_is me b b' None None is is' in
          let same_part : p ≡ p'' = some-injective _ _ (sym next ∙ subst (λ (y : Ledger). get_elem? y.parts y.made ≡ some p'') (sym same) next') in
          (both (with_seat (same j)) (same j).made (same_part j), ap (λ (m : Me Event View). m.1) is j),
    )

-- two views become one
pub joins : (w : World) (id other : ℕ) (b : Ledger) (k : ℕ) (p : Part) → Joins {S = Event} (Tied w) id (keeper b) other (holder k p) (both b k p) empty_view
joins w id other b k p table h at apart there =
    let views = table.views in
    let mine = (h.fits id (keeper b) at).ledger b refl in
    let was : get_elem? views other ≡ some (holder k p) = sym (set_else views id other (both b k p) apart) ∙ there in
    let theirs = (h.fits other (holder k p) was).part k p refl in
    let seats = picked k id h.seat_of in record {
      keeps = h.keeps;
      seat_of = seats;
      ledger = h.ledger;
      sound = h.sound;
      fits = λ j u e. ⊎_elim
          (λ (t : (j ≡ other) × (empty_view ≡ u)). subst (λ (y : View). Fits h.keeps seats h.ledger j y) t.1 record { ledger = λ c e'. absurd cc; part = λ k' p' e'. absurd cc })
          (λ (t : (j ≢ other) × (get_elem? (set views id (both b k p)) j ≡ some u)). ⊎_elim
          (λ (t' : (j ≡ id) × (both b k p ≡ u)). subst (λ (y : ℕ × View). Fits h.keeps seats h.ledger y.0 y.1) (λ i. (sym t'.0 i, t'.1 i)) record {
            ledger = λ c e'. (mine.0, sym (cc e') ∙ mine.1);
            part = λ k' p' e'.
                let pair = pair_is k k' p p' e' in
                let same = pair.0 in
                let same_part = pair.1 in
                subst (λ (y : ℕ × Part). (id ≡ seats y.0) × (y.0 < h.ledger.made) × (get_elem? h.ledger.parts y.0 ≡ some y.1) × (among y.0 h.ledger.gone ≡ false)) (λ i. (same i, same_part i)) (sym (picked_here k id h.seat_of), theirs.1, theirs.2, theirs.3);
          })
          (λ (t' : (j ≢ id) × (get_elem? views j ≡ some u)). let f = h.fits j u t'.1 in record {
            ledger = f.ledger;
            part = λ k' p' e'. let g = f.part k' p' e' in (g.0 ∙ sym (picked_else k id h.seat_of k' (λ same. t.0 (g.0 ∙ ap h.seat_of same ∙ sym theirs.0))), g.1, g.2, g.3);
          })
          (at_set views id j (both b k p) u t.1))
          (at_set (set views id (both b k p)) other j empty_view u e);
    }

-- one view becomes two
pub splits : (w : World) (id : ℕ) (b : Ledger) (k : ℕ) (p : Part) → Splits {S = Event} (Tied w) id (both b k p) (keeper b) (holder k p)
splits w id b k p table h at =
    let views = table.views in
    let mine = h.fits id (both b k p) at in
    let known = mine.ledger b refl in
    let there = mine.part k p refl in
    let new = length (set views id (keeper b)) in
    let seats = picked k new h.seat_of in record {
      keeps = h.keeps;
      seat_of = seats;
      ledger = h.ledger;
      sound = h.sound;
      fits = λ j u e. ⊎_elim
          (λ (at_j : get_elem? (set views id (keeper b)) j ≡ some u). ⊎_elim
          (λ (t : (j ≡ id) × (keeper b ≡ u)). subst (λ (y : ℕ × View). Fits h.keeps seats h.ledger y.0 y.1) (λ i. (sym t.0 i, t.1 i)) record {
            ledger = λ c e'. (known.0, sym (cc e') ∙ known.1);
            part = λ k' p' e'. absurd cc;
          })
          (λ (t : (j ≢ id) × (get_elem? views j ≡ some u)). let f = h.fits j u t.1 in record {
            ledger = f.ledger;
            part = λ k' p' e'. let g = f.part k' p' e' in (g.0 ∙ sym (picked_else k new h.seat_of k' (λ same. t.0 (g.0 ∙ ap h.seat_of same ∙ sym there.0))), g.1, g.2, g.3);
          })
          (at_set views id j (keeper b) u at_j))
          (λ (t : (j ≡ new) × (holder k p ≡ u)). subst (λ (y : ℕ × View). Fits h.keeps seats h.ledger y.0 y.1) (λ i. (sym t.0 i, t.1 i)) record {
            ledger = λ c e'. absurd cc;
            part = λ k' p' e'.
                let pair = pair_is k k' p p' e' in
                let same = pair.0 in
                let same_part = pair.1 in
                subst (λ (y : ℕ × Part). (new ≡ seats y.0) × (y.0 < h.ledger.made) × (get_elem? h.ledger.parts y.0 ≡ some y.1) × (among y.0 h.ledger.gone ≡ false)) (λ i. (same i, same_part i)) (sym (picked_here k new h.seat_of), there.1, there.2, there.3);
          })
          (at_end (set views id (keeper b)) (holder k p) u j e);
    }

pub joins_as : (w : World) (id other : ℕ) (me it : Me Event View) (b : Ledger) (k : ℕ) (p : Part) → me ≡ (keeper b, []) → it ≡ (holder k p, []) → Joins {S = Event} (Tied w) id me.0 other it.0 (together me.0 it.0) empty_view
joins_as w id other me it b k p is is' =
    subst (λ (y : View × View). Joins {S = Event} (Tied w) id y.0 other y.1 (together y.0 y.1) empty_view) (λ j. ((sym is j).0, (sym is' j).0)) (joins w id other b k p)

pub splits_as : (w : World) (id : ℕ) (me : Me Event View) (b : Ledger) (k : ℕ) (p : Part) → me ≡ (both b k p, []) → Splits {S = Event} (Tied w) id me.0 (left_of me.0) (right_of me.0)
splits_as w id me b k p is = subst (λ (y : View). Splits {S = Event} (Tied w) id y (left_of y) (right_of y)) (λ j. (sym is j).0) (splits w id b k p)

-- the steps as the code makes them: an exchange of 0 for 0, and loads of word 0
pub begins_as : (w : World) (slots id : ℕ) (me : Me Event View) (b : Ledger) (e : Event) → me ≡ (keeper b, []) → Allows (Tied w) slots id me 0 (λ x. either (x == 0) 0 x) (BeginStep (step slots 0 0 0 (some e)) me)
begins_as w slots id me b e is = begins w slots id 0 (λ x. either (x == 0) 0 x) me (step slots 0 0 0 (some e)) b e is refl

pub ends_as : (w : World) (slots id : ℕ) (me : Me Event View) (b : Ledger) (e : Event) → me ≡ (keeper b, []) → b.flight ≡ Some e → IsSound w (with_event e b) → Allows (Tied w) slots id me 0 (λ x. x) (EndStep (step slots 0 0 0 none) me)
ends_as w slots id me b e is = ends w slots id 0 (λ x. x) me (step slots 0 0 0 none) b e is

pub takes_as : (w : World) (slots id : ℕ) (me : Me Event View) (b : Ledger) (k : ℕ) (p : Part) (e : Event) → me ≡ (both b k p, []) → b.flight ≡ Some e → Allows (Tied w) slots id me 0 (λ x. x) (TakeStep (step slots 0 0 0 none) me)
takes_as w slots id me b k p e is = takes w slots id 0 (λ x. x) me (step slots 0 0 0 none) b k p e is

pub shows_as : (w : World) (slots id : ℕ) (me : Me Event View) (b : Ledger) (k : ℕ) (p : Part) → me ≡ (both b k p, []) → Allows (Tied w) slots id me 0 (λ x. x) (ShowStep (step slots 0 0 0 none) me)
shows_as w slots id me b k p is = shows w slots id 0 (λ x. x) me (step slots 0 0 0 none) b k p is

pub settles_as : (w : World) (slots id : ℕ) (me : Me Event View) (b : Ledger) (k : ℕ) (p : Part) → me ≡ (both b k p, []) → Allows (Tied w) slots id me 0 (λ x. x) (SettleStep (step slots 0 0 0 none) me)
settles_as w slots id me b k p is = settles w slots id 0 (λ x. x) me (step slots 0 0 0 none) b k p is

pub deals_as : (w : World) (slots id : ℕ) (me : Me Event View) (b : Ledger) (p : Part) → me ≡ (keeper b, []) → b.gone ≡ [] → get_elem? b.parts b.made ≡ some p → Allows (Tied w) slots id me 0 (λ x. x) (DealStep (step slots 0 0 0 none) me)
deals_as w slots id me b p is = deals w slots id 0 (λ x. x) me (step slots 0 0 0 none) b p is

-- the k-th place of a list that is longer
pub some_at : {A : Type 0} (l : List A) (k : ℕ) → k < length l → (a : A) × (get_elem? l k ≡ some a)
some_at [] k h = absurd (omega arith)
some_at (x ∷ xs) zero h = (x, refl)
some_at (x ∷ xs) (suc k) h = some_at xs k (omega arith)

-- a badge with one view, as a seat
pub seated : (vs : List View) (me : Me Event View) (k : ℕ) (p : Part) → vs ≡ holder k p ∷ [] → vs ≡ me.0 ∷ [] → me.1 ≡ [] → me ≡ (holder k p, [])
seated vs me k p is was bare =
    let same : me.0 ≡ holder k p = cc (is, was) in λ j. (same j, bare j)

-- the first seat
pub opens : (w : World) → Kept w (first_view w ∷ [])
opens w = record {
  keeps = 0;
  seat_of = λ k. 0;
  ledger = opening_ledger w 0;
  sound = record { run = tt; world = refl; whole = λ none. refl };
  fits = one;
}
  where
    one : (id : ℕ) (v : View) → get_elem? (first_view w ∷ []) id ≡ some v → Fits 0 (λ k. 0) (opening_ledger w 0) id v
    one zero v e = subst (Fits 0 (λ k. 0) (opening_ledger w 0) 0) (some-injective _ _ e) record { ledger = λ c e'. (refl, sym (cc e')); part = λ k p e'. absurd (cc e') }
    one (suc id) v e = absurd (some-ne-none v (sym e))
