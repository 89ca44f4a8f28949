-- Going over the ranges of slots with one owner.
use Rattle.std.proofs.Common.{◌≡◌, ◌≢◌, ◌⊎◌, ℕ, zero, suc, ◌+◌, ◌-◌, ◌<◌, ◌≤◌, Bool, true, false, cond, eqb, List, [], ◌∷◌, ◌++◌, drop, length, get_or, map, replicate, set, sym, refl, ap, ◌∙◌, subst, arith, inl, inr, get_or-set_same, get_or-set_other, length-set, append_assoc, append-nil, add-one}
use Rattle.std.proofs.lemmas.List.{drop_all, get_or_default}
use Rattle.std.proofs.lemmas.Bool.{cases_eq, cond-true, cond-false, eq-eqb, eqb-true, ne_eqb}
use Rattle.std.proofs.lemmas.List.Elements.{All-head, All-tail}
use Rattle.std.specs.List.{All, AllByRecursion}
use Rattle.key_slots.specs.declared.slot_range.SlotRange.{SlotRange}
use Rattle.key_slots.specs.Ranges.{in_front, ranges_from, start_of, starts_of, owner_ranges}
use Rattle.key_slots.specs.Starts.{next_first}
use Rattle.plan_language.specs.Lines.{numbers_from}
use Rattle.reshard_planner.specs.Holding.{held, slots_from, slots_of}
use Rattle.reshard_planner.specs.Starts.{AreSlotsOf, IsAhead, Spans, Lists}
use Rattle.reshard_planner.proofs.Holding.{held-append, held-replicate_other, held-replicate_same}

-- ---- the starts of a table's ranges span its owners

abbrev starts : List SlotRange → List (ℕ × ℕ)
starts rs = map start_of rs

spans_front : (from end owner : ℕ) (rs : List SlotRange) (owners : List ℕ) → from < end
    → Spans (suc from) end (starts rs) owners
    → Spans from end (starts (in_front (record { first = from; last = from; owner = owner }) rs)) (owner ∷ owners)
spans_front from end owner [] owners l h =
    ([], refl, (omega arith), ap (λ xs. owner ∷ xs) h.1 ∙ sym (ap (λ k. replicate k owner ++ []) (one from end h.0)), (refl, refl))
  where
    one : (from end : ℕ) → suc from ≡ end → end - from ≡ suc 0
    one from end e = omega arith
spans_front from end owner (next ∷ rest) owners l h = by (eqb owner next.owner) refl
  where
    then : ℕ
    then = next_first end (starts rest)

    more : (from then : ℕ) → suc from ≤ then → then - from ≡ suc (then - suc from)
    more from then o = omega arith

    one : (from : ℕ) → suc from - from ≡ suc 0
    one from = omega arith

    by : (b : Bool) → eqb owner next.owner ≡ b → Spans from end
        (starts (cond b (record { first = from; last = next.last; owner = owner } ∷ rest) (record { first = from; last = from; owner = owner } ∷ (next ∷ rest))))
        (owner ∷ owners)
    by true e = (
      h.0,
      refl,
      (let o = h.2 in omega arith),
      ap (λ xs. owner ∷ xs) (h.3 ∙ ap (λ x. replicate (next_first end (starts rest) - suc from) x ++ h.0) (sym (eqb-true owner next.owner e)))
          ∙ sym (ap (λ k. replicate k owner ++ h.0) (more from (next_first end (starts rest)) (let o = h.2 in omega arith))),
      h.4,
    )
    by false e = (
      owners,
      refl,
      (let o = h.1 in omega arith),
      sym (ap (λ k. replicate k owner ++ owners) (ap (λ x. x - from) h.1 ∙ one from)),
      subst (λ k. Spans k end (starts (next ∷ rest)) owners) (sym h.1) h,
    )

spans_from : (from end : ℕ) (owners : List ℕ) → from + length owners ≡ end → Spans from end (starts (ranges_from from owners)) owners
spans_from from end [] e = ((omega arith), refl)
spans_from from end (owner ∷ owners) e =
    spans_front from end owner (ranges_from (from + 1) owners) owners (omega arith)
    (subst (λ k. Spans k end (starts (ranges_from (from + 1) owners)) owners) (next from)
    (spans_from (from + 1) end owners (omega arith)))
  where
    next : (from : ℕ) → from + 1 ≡ suc from
    next from = omega arith

pub spans_all : (owners : List ℕ) → length owners ≡ 16384 → Spans 0 16384 (starts_of owners) owners
unfolding owner_ranges
spans_all owners e = spans_from 0 16384 owners (omega arith)

-- ---- one range more

pub by_recursion : (P : ℕ → Type 0) (xs : List ℕ) → All P xs → AllByRecursion P xs
by_recursion P [] h = tt
by_recursion P (x ∷ xs) h = (All-head P x xs h, by_recursion P xs (All-tail P x xs h))

-- what holds of all holds of a range's owner, where it has a slot, and of the others
pub named_range : (P : ℕ → Type 0) (k owner : ℕ) (rest : List ℕ) → AllByRecursion P (replicate k owner ++ rest)
    → (0 < k → P owner) × AllByRecursion P rest
named_range P zero owner rest h = ((λ l. absurd (omega arith)), h)
named_range P (suc k) owner rest h = ((λ l. h.0), (named_range P k owner rest h.1).1)

pub held_range : (k owner : ℕ) (rest : List ℕ) (node : ℕ) → owner ≡ node → held (replicate k owner ++ rest) node ≡ k + held rest node
held_range k owner rest node e =
    held-append (replicate k owner) rest node
    ∙ ap (λ x. x + held rest node) (ap (held (replicate k owner)) (sym e) ∙ held-replicate_same k owner)

pub held_other : (k owner : ℕ) (rest : List ℕ) (node : ℕ) → owner ≢ node → held (replicate k owner ++ rest) node ≡ held rest node
held_other k owner rest node apart =
    let e = held-append (replicate k owner) rest node in
    let f = held-replicate_other k owner node apart in omega arith

pub slots_range : (from k owner : ℕ) (rest : List ℕ) (node : ℕ) → owner ≡ node
    → slots_from from (replicate k owner ++ rest) node ≡ numbers_from from k ++ slots_from (from + k) rest node
unfolding numbers_from
slots_range from zero owner rest node e = ap (λ x. slots_from x rest node) (plain from)
  where
    plain : (from : ℕ) → from ≡ from + 0
    plain from = omega arith
slots_range from (suc k) owner rest node e =
    cond-true (eqb owner node) (from ∷ slots_from (suc from) (replicate k owner ++ rest) node) (slots_from (suc from) (replicate k owner ++ rest) node) (eq-eqb owner node e)
    ∙ ap (λ l. from ∷ l) (slots_range (suc from) k owner rest node e
    ∙ (λ i. numbers_from (next from i) k ++ slots_from (along from k i) rest node))
  where
    next : (from : ℕ) → suc from ≡ from + 1
    next from = omega arith

    along : (from k : ℕ) → suc from + k ≡ from + suc k
    along from k = omega arith

pub slots_other : (from k owner : ℕ) (rest : List ℕ) (node : ℕ) → owner ≢ node
    → slots_from from (replicate k owner ++ rest) node ≡ slots_from (from + k) rest node
slots_other from zero owner rest node apart = ap (λ x. slots_from x rest node) (plain from)
  where
    plain : (from : ℕ) → from ≡ from + 0
    plain from = omega arith
slots_other from (suc k) owner rest node apart =
    cond-false (eqb owner node) (from ∷ slots_from (suc from) (replicate k owner ++ rest) node) (slots_from (suc from) (replicate k owner ++ rest) node) (ne_eqb owner node apart)
    ∙ slots_other (suc from) k owner rest node apart ∙ ap (λ x. slots_from x rest node) (along from k)
  where
    along : (from k : ℕ) → suc from + k ≡ from + suc k
    along from k = omega arith

pub held-le : (owners : List ℕ) (node : ℕ) → held owners node ≤ length owners
held-le [] node = omega arith
held-le (o ∷ owners) node = let e : held owners node ≤ length owners = held-le owners node in by (eqb o node) e
  where
    by : (b : Bool) → held owners node ≤ length owners → cond b 1 0 + held owners node ≤ suc (length owners)
    by true e = omega arith
    by false e = omega arith

-- the ranges before this place are counted
pub record AreCounted (starts : List (ℕ × ℕ)) (place : ℕ) (counts owners : List ℕ) : Type 0 where
  pub from : ℕ
  pub rest : List ℕ
  pub spans : Spans from 16384 (drop place starts) rest
  pub sums : (node : ℕ) → node < 255 → get_or counts node 0 + held rest node ≡ held owners node
  pub count : length counts ≡ 255
  pub width : length owners ≡ 16384

pub none_counted : (all : List (ℕ × ℕ)) (counts owners : List ℕ) → all ≡ starts_of owners → length owners ≡ 16384
    → length counts ≡ 255 → ((node : ℕ) → node < 255 → get_or counts node 0 ≡ 0) → AreCounted all 0 counts owners
none_counted all counts owners e width count zeros = record {
  from = 0;
  rest = owners;
  spans = subst (λ s. Spans 0 16384 s owners) (sym e) (spans_all owners width);
  sums = λ node l. (let z : get_or counts node 0 ≡ 0 = zeros node l in omega arith);
  count = count;
  width = width;
}

module _ (all : List (ℕ × ℕ)) (place : ℕ) (counts owners : List ℕ) (h : AreCounted all place counts owners) where
  -- the next range fits
  pub range_fits : (end owner at : ℕ) → IsAhead (drop (suc place) all) h.rest h.from end owner → owner < 255 → at ≡ owner
      → get_or counts at 0 + (end - h.from) ≤ 16384
  range_fits end owner at a l e =
      let s : get_or counts owner 0 + held h.rest owner ≡ held owners owner = h.sums owner l in
      let r : held h.rest owner ≡ end - h.from + held a.rest owner
      = ap (λ xs. held xs owner) a.are ∙ held_range (end - h.from) owner a.rest owner refl in
      let m : held owners owner ≤ length owners = held-le owners owner in
      let w : length owners ≡ 16384 = h.width in
      let g : get_or counts at 0 ≡ get_or counts owner 0 = ap (λ x. get_or counts x 0) e in omega arith

  pub one_counted : (end owner at v : ℕ) → IsAhead (drop (suc place) all) h.rest h.from end owner → owner < 255 → at ≡ owner
      → v ≡ get_or counts at 0 + (end - h.from) → AreCounted all (place + 1) (set counts at v) owners
  one_counted end owner at v a l e f = record {
    from = end;
    rest = a.rest;
    spans = subst (λ k. Spans end 16384 (drop k all) a.rest) (sym (add-one place)) a.spans;
    sums = λ node k. by node k (cases_eq node at);
    count = length-set counts at v ∙ h.count;
    width = h.width;
  }
    where
      by : (node : ℕ) → node < 255 → (node ≡ at) ⊎ (node ≢ at) → get_or (set counts at v) node 0 + held a.rest node ≡ held owners node
      by node k (inl here) =
          let s : get_or counts node 0 + held h.rest node ≡ held owners node = h.sums node k in
          let r : held h.rest node ≡ end - h.from + held a.rest node
          = ap (λ xs. held xs node) a.are ∙ held_range (end - h.from) owner a.rest node (sym (here ∙ e)) in
          let g : get_or (set counts at v) node 0 ≡ v
          = ap (λ x. get_or (set counts at v) x 0) here ∙ get_or-set_same counts at v 0 (let c = h.count in omega arith) in
          let u : get_or counts at 0 ≡ get_or counts node 0 = ap (λ x. get_or counts x 0) (sym here) in omega arith
      by node k (inr apart) =
          let s : get_or counts node 0 + held h.rest node ≡ held owners node = h.sums node k in
          let r : held h.rest node ≡ held a.rest node
          = ap (λ xs. held xs node) a.are ∙ held_other (end - h.from) owner a.rest node (λ u. apart (sym (e ∙ u))) in
          let g : get_or (set counts at v) node 0 ≡ get_or counts node 0 = get_or-set_other counts at node v 0 apart in omega arith

  pub all_counted : length all ≤ place → Lists (held owners) 255 counts
  all_counted past node k =
      let s : get_or counts node 0 + held h.rest node ≡ held owners node = h.sums node k in
      let n : held h.rest node ≡ 0 = ap (λ xs. held xs node)
      (subst (λ s. Spans h.from 16384 s h.rest) (drop_all place all past) h.spans).1 in omega arith

-- ---- the same for the slots of each node

pub record AreListed (starts : List (ℕ × ℕ)) (place nodes : ℕ) (lists : List (List ℕ)) (owners : List ℕ) : Type 0 where
  pub from : ℕ
  pub rest : List ℕ
  pub spans : Spans from 16384 (drop place starts) rest
  pub parts : (node : ℕ) → node < nodes → get_or lists node [] ++ slots_from from rest node ≡ slots_of owners node
  pub count : length lists ≡ nodes
  pub named : AllByRecursion (λ o. o < nodes) rest

pub none_listed : (all : List (ℕ × ℕ)) (nodes : ℕ) (lists : List (List ℕ)) (owners : List ℕ) → all ≡ starts_of owners
    → length owners ≡ 16384 → All (λ o. o < nodes) owners → AreSlotsOf nodes [] lists → AreListed all 0 nodes lists owners
none_listed all nodes lists owners e width named h = record {
  from = 0;
  rest = owners;
  spans = subst (λ s. Spans 0 16384 s owners) (sym e) (spans_all owners width);
  parts = λ node l. ap (λ xs. xs ++ slots_of owners node) (h.are node l);
  count = h.count;
  named = by_recursion (λ o. o < nodes) owners named;
}

module _ (all : List (ℕ × ℕ)) (place nodes : ℕ) (lists : List (List ℕ)) (owners : List ℕ) (h : AreListed all place nodes lists owners) where
  -- the next range is of one of the nodes, as all after it are
  pub owner_below : (end owner : ℕ) → IsAhead (drop (suc place) all) h.rest h.from end owner → owner < nodes
  owner_below end owner a = (named_range (λ o. o < nodes) (end - h.from) owner a.rest
      (subst (AllByRecursion (λ o. o < nodes)) a.are h.named)).0 (let o = a.order in omega arith)

  pub one_listed : (end owner at : ℕ) (list new : List ℕ) → IsAhead (drop (suc place) all) h.rest h.from end owner
      → at ≡ owner → list ≡ get_or lists at list → new ≡ list ++ numbers_from h.from (end - h.from)
      → AreListed all (place + 1) nodes (set lists at new) owners
  one_listed end owner at list new a e is f = record {
    from = end;
    rest = a.rest;
    spans = subst (λ k. Spans end 16384 (drop k all) a.rest) (sym (add-one place)) a.spans;
    parts = λ node k. by node k (cases_eq node at);
    count = length-set lists at new ∙ h.count;
    named = (named_range (λ o. o < nodes) (end - h.from) owner a.rest (subst (AllByRecursion (λ o. o < nodes)) a.are h.named)).1;
  }
    where
      there : at < length lists
      there = let c = h.count in let l = owner_below end owner a in omega arith

      reach : h.from + (end - h.from) ≡ end
      reach = let o = a.order in omega arith

      by : (node : ℕ) → node < nodes → (node ≡ at) ⊎ (node ≢ at) → get_or (set lists at new) node [] ++ slots_from end a.rest node ≡ slots_of owners node
      by node k (inl here) =
          ap (λ xs. xs ++ slots_from end a.rest node)
          (ap (λ x. get_or (set lists at new) x []) here ∙ get_or-set_same lists at new [] there ∙ f
          ∙ ap (λ xs. xs ++ numbers_from h.from (end - h.from)) (is ∙ get_or_default lists at list [] there ∙ ap (λ x. get_or lists x []) (sym here)))
          ∙ append_assoc (get_or lists node []) (numbers_from h.from (end - h.from)) (slots_from end a.rest node)
          ∙ ap (λ xs. get_or lists node [] ++ xs) (ap (λ x. numbers_from h.from (end - h.from) ++ slots_from x a.rest node) (sym reach)
          ∙ sym (slots_range h.from (end - h.from) owner a.rest node (sym (here ∙ e)))
          ∙ ap (λ xs. slots_from h.from xs node) (sym a.are))
          ∙ h.parts node k
      by node k (inr apart) =
          ap (λ xs. xs ++ slots_from end a.rest node) (get_or-set_other lists at node new [] apart)
          ∙ ap (λ xs. get_or lists node [] ++ xs) (ap (λ x. slots_from x a.rest node) (sym reach)
          ∙ sym (slots_other h.from (end - h.from) owner a.rest node (λ u. apart (sym (e ∙ u))))
          ∙ ap (λ xs. slots_from h.from xs node) (sym a.are))
          ∙ h.parts node k

  pub all_listed : length all ≤ place → AreSlotsOf nodes owners lists
  all_listed past = record {
    count = h.count;
    are = λ node k. sym (append-nil (get_or lists node []))
        ∙ ap (λ xs. get_or lists node [] ++ slots_from h.from xs node)
        (sym (subst (λ s. Spans h.from 16384 s h.rest) (drop_all place all past) h.spans).1)
        ∙ h.parts node k;
  }

-- ---- arrays

pub lists_more : (f : ℕ → ℕ) (i : ℕ) (xs : List ℕ) (v : ℕ) → i < length xs → Lists f i xs → v ≡ f i → Lists f (i + 1) (set xs i v)
lists_more f i xs v l h e k below = elim (cases_eq k i) [
  | inl here ↦ ap (λ x. get_or (set xs i v) x 0) here ∙ get_or-set_same xs i v 0 l ∙ e ∙ ap f (sym here)
  | inr apart ↦ get_or-set_other xs i k v 0 apart ∙ h k (omega arith)
]
