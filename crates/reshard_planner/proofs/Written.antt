-- A plan that is written range by range.
use Rattle.std.proofs.Common.{◌≡◌, ℕ, zero, suc, ◌+◌, ◌<◌, ◌≤◌, Bool, true, false, cond, List, [], ◌∷◌, ◌++◌, drop, length, get_or, Option, None, Some, sym, refl, ap, ◌∙◌, subst, add-one, arith, append_assoc, drop-cons}
use Rattle.std.specs.List.{AllByRecursion}
use Rattle.node_names.specs.Names.{Names}
use Rattle.plan_language.specs.declared.line.Line.{Line}
use Rattle.plan_language.specs.Limits.{limits_of}
use Rattle.plan_language.specs.Lines.{count, line_count}
use Rattle.reshard_planner.specs.declared.moved_range.MovedRange.{MovedRange}
use Rattle.reshard_planner.specs.declared.transfer.Transfer.{Transfer}
use Rattle.reshard_planner.specs.Blank.{names_for}
use Rattle.reshard_planner.specs.Grouping.{goes_on, in_front, line_of, lines_of, range_of, ranges_of}
use Rattle.reshard_planner.specs.Writing.{line_slots, open_slots, slots_written, with_open, IsBetween, IsUnderway, TakesOn}
use Rattle.reshard_planner.proofs.Grouped.{went_on}
use Rattle.reshard_planner.proofs.Rooms.{more_room, slots_pushed, wide_enough}

-- what continues joins the range, with whatever it is joined to itself
front_joined : (r : MovedRange) (next : Transfer) (rest : List MovedRange) → goes_on r next.slot next.source next.target ≡ true
    → in_front r (in_front (range_of next) rest) ≡ in_front (record r { last = next.slot }) rest
front_joined r next [] e = ap (λ b. cond b (record r { last = next.slot } ∷ []) (r ∷ (range_of next ∷ []))) e
front_joined r next (other ∷ rest) e = by (goes_on (range_of next) other.first other.source other.target) refl
  where
    same : goes_on (record r { last = next.slot }) other.first other.source other.target
        ≡ goes_on (range_of next) other.first other.source other.target
    same = let g = went_on r next.slot next.source next.target e in
        (λ i. goes_on (record { first = r.first; last = next.slot; source = g.same_source i; target = g.same_target i }) other.first other.source other.target)

    joined : Bool → List MovedRange
    joined b = cond b (record r { last = other.last } ∷ rest) (record r { last = next.slot } ∷ (other ∷ rest))

    by : (b : Bool) → goes_on (range_of next) other.first other.source other.target ≡ b
        → in_front r (cond b (record { first = next.slot; last = other.last; source = next.source; target = next.target } ∷ rest) (range_of next ∷ (other ∷ rest)))
        ≡ cond (goes_on (record r { last = next.slot }) other.first other.source other.target) (record r { last = other.last } ∷ rest) (record r { last = next.slot } ∷ (other ∷ rest))
    by true f =
        ap (λ b. cond b (record r { last = other.last } ∷ rest) (r ∷ (record { first = next.slot; last = other.last; source = next.source; target = next.target } ∷ rest))) e
        ∙ sym (ap (λ b. cond b (record r { last = other.last } ∷ rest) (record r { last = next.slot } ∷ (other ∷ rest))) (same ∙ f))
    by false f =
        ap (λ b. cond b (record r { last = next.slot } ∷ (other ∷ rest)) (r ∷ (range_of next ∷ (other ∷ rest)))) e
        ∙ sym (ap (λ b. cond b (record r { last = other.last } ∷ rest) (record r { last = next.slot } ∷ (other ∷ rest))) (same ∙ f))

-- what does not go on begins another range
front_apart : (r : MovedRange) (next : Transfer) (rest : List MovedRange) → goes_on r next.slot next.source next.target ≡ false
    → in_front r (in_front (range_of next) rest) ≡ r ∷ in_front (range_of next) rest
front_apart r next [] e = ap (λ b. cond b (record r { last = next.slot } ∷ []) (r ∷ (range_of next ∷ []))) e
front_apart r next (other ∷ rest) e = by (goes_on (range_of next) other.first other.source other.target)
  where
    by : (b : Bool) → in_front r (cond b (record { first = next.slot; last = other.last; source = next.source; target = next.target } ∷ rest) (range_of next ∷ (other ∷ rest)))
        ≡ r ∷ cond b (record { first = next.slot; last = other.last; source = next.source; target = next.target } ∷ rest) (range_of next ∷ (other ∷ rest))
    by true = ap (λ b. cond b (record r { last = other.last } ∷ rest) (r ∷ (record { first = next.slot; last = other.last; source = next.source; target = next.target } ∷ rest))) e
    by false = ap (λ b. cond b (record r { last = next.slot } ∷ (other ∷ rest)) (r ∷ (range_of next ∷ (other ∷ rest)))) e

-- ---- one transfer more

pub begins : (batch : ℕ) (plan : List Line) (next : Transfer) → TakesOn batch plan None next plan (range_of next)
begins batch plan next = record {
  order = omega arith;
  source = refl;
  target = refl;
  counted = omega arith;
  written = λ rest. refl;
}

pub is_joined : (b : Bool) (x y : MovedRange) → (let o : Option MovedRange = Some y in o) ≡ cond b (Some x) None → (b ≡ true) × (y ≡ x)
is_joined true x y e = (refl, cc)
is_joined false x y e = cc

pub not_joined : (b : Bool) (x : MovedRange) (o : Option MovedRange) → o ≡ cond b (Some x) None → o ≡ None → b ≡ false
not_joined true x o e f = cc
not_joined false x o e f = refl

pub joins : (batch : ℕ) (plan : List Line) (r longer : MovedRange) (next : Transfer) → r.first ≤ r.last
    → goes_on r next.slot next.source next.target ≡ true → longer ≡ record r { last = next.slot }
    → TakesOn batch plan (Some r) next plan longer
joins batch plan r longer next order e f = subst (TakesOn batch plan (Some r) next plan) (sym f) (
    let g = went_on r next.slot next.source next.target e in
    let after : r.last + 1 ≡ next.slot = g.next in record {
      order = omega arith;
      source = g.same_source;
      target = g.same_target;
      counted = omega arith;
      written = λ rest. ap (λ rs. plan ++ lines_of batch rs) (sym (front_joined r next rest e));
    })

pub parts : (batch : ℕ) (plan new : List Line) (r : MovedRange) (next : Transfer)
    → goes_on r next.slot next.source next.target ≡ false → new ≡ plan ++ line_of batch r ∷ []
    → TakesOn batch plan (Some r) next new (range_of next)
parts batch plan new r next e f = subst (λ l. TakesOn batch plan (Some r) next l (range_of next)) (sym f) (record {
  order = omega arith;
  source = refl;
  target = refl;
  counted = let c = slots_pushed plan (line_of batch r) in omega arith;
  written = λ rest. append_assoc plan (line_of batch r ∷ []) (lines_of batch (in_front (range_of next) rest))
      ∙ ap (λ rs. plan ++ lines_of batch rs) (sym (front_apart r next rest e));
})

pub parts_after : (batch : ℕ) (plan new : List Line) (range with_next : Option MovedRange) (r open_range : MovedRange) (next : Transfer) (line : Line)
    → range ≡ Some r → with_next ≡ cond (goes_on r next.slot next.source next.target) (Some (record r { last = next.slot })) None
    → with_next ≡ None → line ≡ line_of batch r → new ≡ plan ++ line ∷ [] → open_range ≡ range_of next
    → TakesOn batch plan range next new open_range
parts_after batch plan new range with_next r open_range next line e w none l n o =
    subst (λ x. TakesOn batch plan x next new open_range) (sym e)
    (subst (TakesOn batch plan (Some r) next new) (sym o)
    (parts batch plan new r next
    (not_joined (goes_on r next.slot next.source next.target) (record r { last = next.slot }) with_next w none)
    (n ∙ ap (λ x. plan ++ x ∷ []) l)))

-- ---- the whole

pub underway_none : (batch nodes : ℕ) (transfers : List Transfer) (plan : List Line) → length transfers ≤ 16384 → plan ≡ []
    → IsUnderway batch nodes transfers 0 plan None
underway_none batch nodes transfers plan few e = subst (λ l. IsUnderway batch nodes transfers 0 l None) (sym e) (record {
  order = tt;
  room = omega arith;
  written = refl;
})

pub underway_more : (batch nodes : ℕ) (transfers : List Transfer) (done : ℕ) (plan new : List Line) (range : Option MovedRange) (next : Transfer)
    (r : MovedRange) → done < length transfers → next ≡ get_or transfers done next → IsBetween nodes next
    → IsUnderway batch nodes transfers done plan range → TakesOn batch plan range next new r
    → IsUnderway batch nodes transfers (done + 1) new (Some r)
underway_more batch nodes transfers done plan new range next r l is between u t = record {
  order = (t.order, subst (λ n. n < nodes) (sym t.source) between.0, subst (λ n. n < nodes) (sym t.target) between.1);
  room = let a = t.counted in let b = u.room in omega arith;
  written = ap (λ k. new ++ lines_of batch (in_front r (ranges_of (drop k transfers)))) (add-one done)
      ∙ t.written (ranges_of (drop (suc done) transfers))
      ∙ ap (λ ts. plan ++ lines_of batch (with_open range (ranges_of ts))) (sym (drop-cons transfers done next l
      ∙ ap (λ x. x ∷ drop (suc done) transfers) (sym is)))
      ∙ u.written;
}

-- ---- there is room for the open range

pub range_room : (names : Option Names) (plan : List Line) (range : Option MovedRange) (r : MovedRange) (line : Line) (batch : ℕ)
    → range ≡ Some r → line ≡ line_of batch r → slots_written plan + open_slots range ≤ 16384
    → count (limits_of names) plan + line_count (limits_of names) line ≤ (limits_of names).commands
range_room names plan range r line batch e l h = more_room names plan line
    (subst (λ x. slots_written plan + line_slots x ≤ 16384) (sym l) (subst (λ o. slots_written plan + open_slots o ≤ 16384) e h))

-- what holds of all holds at each place
pub at_place : (P : Transfer → Type 0) (xs : List Transfer) (i : ℕ) (x : Transfer) → AllByRecursion P xs → i < length xs
    → x ≡ get_or xs i x → P x
at_place P [] i x all l e = absurd (omega arith)
at_place P (y ∷ xs) zero x all l e = subst P (sym e) all.0
at_place P (y ∷ xs) (suc i) x all l e = at_place P xs i x all.1 (omega arith) e

-- the nodes of a cluster may stand in a plan for it
pub between_wide : (n : ℕ) (names : Option Names) (t : Transfer) → n ≤ 255 → names ≡ names_for n → IsBetween n t
    → IsBetween (limits_of names).nodes t
between_wide n names t most e b =
    let w : n ≤ (limits_of names).nodes = subst (λ x. n ≤ (limits_of x).nodes) (sym e) (wide_enough n most) in
    (omega (arith, b.0, w), omega (arith, b.1, w))
