-- Masters that are put at their places one after the other.
use Rattle.std.proofs.Common.{◌≡◌, ℕ, ◌+◌, ◌-◌, ◌<◌, ◌≤◌, true, false, cond, List, [], ◌∷◌, ◌++◌, length, map}
use Rattle.std.proofs.Common.{take, drop, get_or, filter, Option, None, Some, inl, inr, refl, sym, subst, ap, ◌∙◌}
use Rattle.std.proofs.Common.{append-nil, take-append-drop, arith}
use Rattle.std.specs.Prelude.{IsSome, unwrap_or, insert}
use Rattle.std.specs.List.{drop-map, take-map}
use Rattle.std.specs.List.Sorted.{IsPermutation, IsStrictlyIncreasing}
use Rattle.std.proofs.lemmas.Bool.{cases_lt}
use Rattle.std.proofs.lemmas.List.{length-append, length-map, length-take, map-append, nil_from_length, take_all}
use Rattle.std.proofs.lemmas.List.{take_more}
use Rattle.std.proofs.lemmas.List.Edits.{get_or-insert_above, get_or-insert_at, get_or-insert_below, length-insert}
use Rattle.std.proofs.lemmas.List.Elements.{All-cons, All-nil, filter-append}
use Rattle.std.proofs.lemmas.List.Sorted.{All-permutation, Contains-permutation, IsPermutation-insert}
use Rattle.std.proofs.lemmas.List.Sorted.{IsPermutation-push_more, IsPermutation-refl}
use Rattle.std.proofs.lemmas.List.Sorted.{IsPermutation-sym, length_permutation}
use Rattle.std.proofs.Math.ListN.{get_or-map}
use Rattle.listed_nodes.specs.declared.node_line.NodeLine.{NodeLine}
use Rattle.server_commands.specs.Servers.{nobody, server_at}
use Rattle.server_commands.specs.declared.book.Server.{Server}
use Rattle.cluster_survey.specs.Addresses.{place_of}
use Rattle.cluster_views.specs.Gone.{is_present}
use Rattle.cluster_survey.specs.Masters.{AreMastersOf, IsAdded, IsAscending, IsGap, IsMaster, IsMastersFault}
use Rattle.cluster_survey.specs.Masters.{IsNotAdded, masters, place, server_of}
use Rattle.cluster_views.specs.declared.fault.SurveyFault.{SurveyFault}
use Rattle.cluster_views.specs.declared.fault.SurveyFault.TheVariants as fault
use Rattle.cluster_views.proofs.Firsts.{drop_item}

-- ---- a number more in an ascending list

pub insert_increasing : (xs : List ℕ) (i y : ℕ) → IsStrictlyIncreasing xs → i ≤ length xs
    → ((k : ℕ) → k < i → get_or xs k 0 < y) → (i < length xs → y < get_or xs i 0) → IsStrictlyIncreasing (insert xs i y)
insert_increasing xs i y up within below above k lt =
    let many : length (insert xs i y) ≡ length xs + 1 = length-insert xs i y within in
    elim (cases_lt (k + 1) i) [
      | inl before ↦
          subst (λ a. a < get_or (insert xs i y) (k + 1) 0) (sym (get_or-insert_below xs i y 0 k (omega arith) within))
          (subst (λ b. get_or xs k 0 < b) (sym (get_or-insert_below xs i y 0 (k + 1) before within)) (up k (omega arith)))
      | inr ge ↦ elim (cases_lt k i) [
        | inl here ↦
            let e : k + 1 ≡ i = omega arith in
            subst (λ a. a < get_or (insert xs i y) (k + 1) 0) (sym (get_or-insert_below xs i y 0 k here within))
            (subst (λ b. get_or xs k 0 < b)
            (sym (ap (λ j. get_or (insert xs i y) j 0) e ∙ get_or-insert_at xs i y 0 within)) (below k here))
        | inr from ↦ elim (cases_lt i k) [
          | inl past ↦
              let e : k - 1 + 1 ≡ k = omega arith in
              let low : get_or (insert xs i y) k 0 ≡ get_or xs (k - 1) 0 =
              ap (λ j. get_or (insert xs i y) j 0) (sym e) ∙ get_or-insert_above xs i y 0 (k - 1) (omega arith) within in
              let next : get_or xs (k - 1) 0 < get_or xs k 0 =
              subst (λ j. get_or xs (k - 1) 0 < get_or xs j 0) e (up (k - 1) (omega arith)) in
              subst (λ a. a < get_or (insert xs i y) (k + 1) 0) (sym low)
              (subst (λ b. get_or xs (k - 1) 0 < b) (sym (get_or-insert_above xs i y 0 k from within)) next)
          | inr le ↦
              let e : k ≡ i = omega arith in
              subst (λ a. a < get_or (insert xs i y) (k + 1) 0)
              (sym (ap (λ j. get_or (insert xs i y) j 0) e ∙ get_or-insert_at xs i y 0 within))
              (subst (λ b. y < b) (sym (get_or-insert_above xs i y 0 k from within))
              (subst (λ j. y < get_or xs j 0) (sym e) (above (omega arith))))
        ]
      ]
    ]

map-insert : {A B : Type 0} (f : A → B) (xs : List A) (i : ℕ) (y : A) → map f (insert xs i y) ≡ insert (map f xs) i (f y)
map-insert f xs i y =
    map-append f (take i xs) (y ∷ drop i xs)
    ∙ ap (λ t. t ++ f y ∷ map f (drop i xs)) (sym (take-map f i xs))
    ∙ ap (λ t. take i (map f xs) ++ f y ∷ t) (sym (drop-map f i xs))

places_at : (ss : List Server) (k : ℕ) → get_or (map place ss) k 0 ≡ place (server_at ss k)
places_at ss k = get_or-map place ss k nobody

some_is : (o : Option ℕ) (n : ℕ) → o ≡ Some n → IsSome o
some_is None n e = absurd cc
some_is (Some m) n e = refl

-- a server at its place among others
pub gap_ascends : (ss : List Server) (s : Server) (i number : ℕ) → IsAscending ss → IsGap ss number i
    → place_of s ≡ Some number → IsAscending (insert ss i s)
gap_ascends ss s i number asc gap is =
    let its : place s ≡ number = ap (λ o. unwrap_or o 0) is in
    record {
      addressed = All-permutation (λ t. IsSome (place_of t)) (s ∷ ss) (insert ss i s) (IsPermutation-insert ss i s)
          (All-cons (λ t. IsSome (place_of t)) s ss (some_is (place_of s) number is) asc.addressed);
      ascending = subst IsStrictlyIncreasing (sym (map-insert place ss i s))
          (insert_increasing (map place ss) i (place s) asc.ascending (subst (λ n. i ≤ n) (sym (length-map ss place)) gap.within)
          (λ k lt. subst (λ n. get_or (map place ss) k 0 < n) (sym its) (subst (λ n. n < number) (sym (places_at ss k)) (gap.below k lt)))
          (λ lt. subst (λ n. n < get_or (map place ss) i 0) (sym its) (subst (λ n. number < n) (sym (places_at ss i))
          (gap.above (subst (λ n. i < n) (length-map ss place) lt)))));
    }

-- a server that was made of a line, and put at its place
pub added : (ss ss' : List Server) (s made : Server) (i number : ℕ) → IsAscending ss → made ≡ s
    → place_of made ≡ Some number → IsGap ss number i → ss' ≡ insert ss i made → length ss < 255 → IsAdded ss s ss'
added ss ss' s made i number asc same is gap whole few =
    let put : ss' ≡ insert ss i s = whole ∙ ap (λ x. insert ss i x) same in
    record {
      at = i;
      within = gap.within;
      whole = put;
      order = subst IsAscending (sym put) (gap_ascends ss s i number asc gap (ap place_of (sym same) ∙ is));
      few = few;
    }

-- ---- the masters of the first lines, and of the next one

pub masters-append : (ls ms : List NodeLine) → masters (ls ++ ms) ≡ masters ls ++ masters ms
masters-append ls ms =
    ap (map server_of) (filter-append is_present ls ms)
    ∙ map-append server_of (filter is_present ls) (filter is_present ms)

parted : (ls : List NodeLine) (i : ℕ) (l : NodeLine) → i < length ls → l ≡ get_or ls i l
    → ls ≡ take i ls ++ l ∷ drop (i + 1) ls
parted ls i l lt is = sym (take-append-drop i ls) ∙ ap (λ t. take i ls ++ t) (drop_item ls i l lt is)

next_taken : (ls : List NodeLine) (i : ℕ) (l : NodeLine) → i < length ls → l ≡ get_or ls i l
    → take (i + 1) ls ≡ take i ls ++ l ∷ []
next_taken ls i l lt is = take_more ls i l lt ∙ ap (λ x. take i ls ++ x ∷ []) (sym is)

pub masters_more : (ls : List NodeLine) (i : ℕ) (l : NodeLine) → i < length ls → l ≡ get_or ls i l → is_present l ≡ true
    → masters (take (i + 1) ls) ≡ masters (take i ls) ++ server_of l ∷ []
masters_more ls i l lt is yes_present =
    ap masters (next_taken ls i l lt is) ∙ masters-append (take i ls) (l ∷ [])
    ∙ ap (λ b. masters (take i ls) ++ map server_of (cond b (l ∷ []) [])) yes_present

pub masters_same : (ls : List NodeLine) (i : ℕ) (l : NodeLine) → i < length ls → l ≡ get_or ls i l → is_present l ≡ false
    → masters (take (i + 1) ls) ≡ masters (take i ls)
masters_same ls i l lt is not_present =
    ap masters (next_taken ls i l lt is) ∙ masters-append (take i ls) (l ∷ [])
    ∙ ap (λ b. masters (take i ls) ++ map server_of (cond b (l ∷ []) [])) not_present
    ∙ append-nil (masters (take i ls))

-- the masters of the first lines stand at their places
pub record Placed (ls : List NodeLine) (i : ℕ) (ss : List Server) : Type 0 where
  pub all : IsPermutation (masters (take i ls)) ss
  pub order : IsAscending ss
  pub few : length ss ≤ 255

pub none_placed : (ls : List NodeLine) (ss : List Server) → ss ≡ [] → Placed ls 0 ss
none_placed ls ss e = subst (Placed ls 0) (sym e) (record {
  all = IsPermutation-refl [];
  order = record { addressed = All-nil (λ t. IsSome (place_of t)); ascending = λ k lt. absurd (omega arith) };
  few = omega arith;
})

-- a master that was put at its place
pub one_placed : (ls : List NodeLine) (i : ℕ) (l : NodeLine) (ss ss' : List Server) → i < length ls → l ≡ get_or ls i l
    → is_present l ≡ true → Placed ls i ss → IsAdded ss (server_of l) ss' → Placed ls (i + 1) ss'
one_placed ls i l ss ss' lt is yes_present before added = record {
  all = subst (λ xs. IsPermutation xs ss') (sym (masters_more ls i l lt is yes_present))
      (subst (IsPermutation (masters (take i ls) ++ server_of l ∷ [])) (sym added.whole)
      (IsPermutation-push_more (masters (take i ls)) ss (insert ss added.at (server_of l)) (server_of l) before.all
      (IsPermutation-insert ss added.at (server_of l))));
  order = added.order;
  few = omega (arith, ap length added.whole, length-insert ss added.at (server_of l) added.within, added.few);
}

pub other_placed : (ls : List NodeLine) (i : ℕ) (l : NodeLine) (ss : List Server) → i < length ls → l ≡ get_or ls i l
    → is_present l ≡ false → Placed ls i ss → Placed ls (i + 1) ss
other_placed ls i l ss lt is not_present before = record {
  all = subst (λ xs. IsPermutation xs ss) (sym (masters_same ls i l lt is not_present)) before.all;
  order = before.order;
  few = before.few;
}

-- one that was not
pub one_not_added : (ls : List NodeLine) (i : ℕ) (l : NodeLine) (ss : List Server) (e : SurveyFault) → i < length ls
    → l ≡ get_or ls i l → is_present l ≡ true → IsPermutation (masters (take i ls)) ss
    → IsNotAdded ss (server_of l) (i + 1) e → IsMastersFault ls e
one_not_added ls i l ss e lt is yes_present perm h = by e h
  where
    at : IsMaster ls (i + 1) (take i ls) l
    at = record {
      after = drop (i + 1) ls;
      whole = parted ls i l lt is;
      place = omega (arith, length-take i ls);
      present = yes_present;
    }

    many : 255 ≤ length ss → 255 < length (masters ls)
    many le =
        let all = ap masters (parted ls i l lt is) ∙ masters-append (take i ls) (l ∷ drop (i + 1) ls)
        ∙ ap (λ b. masters (take i ls) ++ map server_of (cond b (l ∷ filter is_present (drop (i + 1) ls))
        (filter is_present (drop (i + 1) ls)))) yes_present in
        let count = length_permutation (masters (take i ls)) ss perm in
        omega (
          arith,
          ap length all,
          count,
          length-append (masters (take i ls)) (server_of l ∷ masters (drop (i + 1) ls)),
        )

    by : (e : SurveyFault) → IsNotAdded ss (server_of l) (i + 1) e → IsMastersFault ls e
    by fault.Memory h = tt
    by fault.TooManyMasters h = many h
    by (fault.NoAddress line) h =
        (take i ls, l, subst (λ n. IsMaster ls n (take i ls) l) (sym h.0) at, h.1)
    by (fault.SameAddress line) h = (
      take i ls,
      l,
      subst (λ n. IsMaster ls n (take i ls) l) (sym h.0) at,
      (h.1.0, Contains-permutation ss (masters (take i ls)) h.1.0 (IsPermutation-sym (masters (take i ls)) ss perm) h.1.1, h.1.2),
    )
    by other h = absurd h

pub none_masters : (ls : List NodeLine) (i : ℕ) (ss : List Server) → length ls ≤ i → IsPermutation (masters (take i ls)) ss
    → length ss ≡ 0 → masters ls ≡ []
none_masters ls i ss le perm none =
    nil_from_length (masters ls) (
    ap (λ xs. length (masters xs)) (sym (take_all i ls le)) ∙ sym (length_permutation (masters (take i ls)) ss perm) ∙ none)

pub all_masters : (ls : List NodeLine) (i : ℕ) (ss : List Server) → length ls ≤ i → IsPermutation (masters (take i ls)) ss
    → IsAscending ss → AreMastersOf ls ss
all_masters ls i ss le perm asc = record {
  all = subst (λ xs. IsPermutation (masters xs) ss) (take_all i ls le) perm;
  order = asc;
}
