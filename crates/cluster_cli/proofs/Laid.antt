-- Weights by name are those that the items give.
use Rattle.std.proofs.Common.{◌≡◌, ◌≢◌, ◌∙◌, ℕ, ◌<◌, Bool, true, false, cond, nat_eq, nat_lt, List, [], ◌∷◌, length, map, refl, sym, ap, subst, arith, replicate, slice_index_or, slice_set}
use Rattle.std.specs.Prelude.{Option, Some, None, option_and_then, option_map, unwrap_or}
use Rattle.std.specs.Option.{is_some, option_or}
use Rattle.std.specs.List.{AllByRecursion, AllZip, IsDistinct, range_with_len}
use Rattle.std.specs.Map.{lookup}
use Rattle.std.proofs.lemmas.Bool.{true≢false}
use Rattle.std.proofs.lemmas.Bool.Decides.{nat_tests}
use Rattle.std.proofs.lemmas.List.{ext_get_or, get_or-map, get_or-replicate, get_or-set_other, get_or-set_same, length-map, length-replicate, length-set}
use Rattle.std.proofs.lemmas.List.FromFn.{get_or-map-range_with_len, length-map-range_with_len}
use Rattle.byte_texts.specs.Decimals.{number_in}
use Rattle.byte_texts.specs.Parts.{parts, split_once}
use Rattle.key_slots.specs.Numbers.{node_among}
use Rattle.cluster_cli.specs.ByName.{AreByName, WeightsAreByName, weight_of}
use Rattle.cluster_cli.specs.NodeLists.{below, node_of}
use Rattle.cluster_cli.specs.WeightsByName.{item_of, row_of, weighed}

none_or_some : {A : Type 0} {C : Type 0} (x : A) → ◌≡◌ {A = Option A} None (Some x) → C
none_or_some {A} x e = absurd (true≢false (ap is_some (sym e)))

some-injective : {A : Type 0} (x y : A) → ◌≡◌ {A = Option A} (Some x) (Some y) → x ≡ y
some-injective x y e = ap (λ o. unwrap_or o x) e

abbrev Given : (nodes : ℕ) → List (List ℕ) → List (ℕ × ℕ) → Type 0
Given nodes items gs = AllZip (λ item g. item_of nodes item ≡ Some g) items gs

abbrev named : List (ℕ × ℕ) → List ℕ
named gs = map (λ g. g.0) gs

-- ---- each node that is named is one of the cluster

is_below : (nodes n k : ℕ) → below nodes k ≡ Some n → n < nodes
is_below nodes n k e = go (nat_lt k nodes) refl e
  where
    go : (b : Bool) → nat_lt k nodes ≡ b → cond b (Some k) None ≡ Some n → n < nodes
    go true is e = let same : k ≡ n = some-injective k n e in grind (arith, nat_tests)
    go false is e = none_or_some n e

within : (nodes : ℕ) (item : List ℕ) (g : ℕ × ℕ) → item_of nodes item ≡ Some g → g.0 < nodes
within nodes item g e = by_sides (split_once 61 item) e
  where
    by_number : (n : ℕ) (w : Option ℕ) → option_map (λ weight. (n, weight)) w ≡ Some g → n ≡ g.0
    by_number n None e = none_or_some g e
    by_number n (Some w) e = ap (λ p. p.0) (some-injective (n, w) g e)

    by_node : (n w : Option ℕ) → option_and_then (λ node. option_map (λ weight. (node, weight)) w) n ≡ Some g → n ≡ Some g.0
    by_node None w e = none_or_some g e
    by_node (Some n) w e = ap (λ m. Some m) (by_number n w e)

    by_word : (k : Option ℕ) → option_and_then (below nodes) k ≡ Some g.0 → g.0 < nodes
    by_word None e = none_or_some g.0 e
    by_word (Some k) e = is_below nodes g.0 k e

    by_sides : (o : Option (List ℕ × List ℕ)) → option_and_then (weighed nodes) o ≡ Some g → g.0 < nodes
    by_sides None e = none_or_some g e
    by_sides (Some sides) e = by_word (node_among 255 sides.0) (by_node (node_of nodes sides.0) (number_in 0 1000 sides.1) e)

all_within : (nodes : ℕ) (items : List (List ℕ)) (gs : List (ℕ × ℕ)) → Given nodes items gs → AllByRecursion (λ n. n < nodes) (named gs)
all_within nodes [] [] z = tt
all_within nodes [] (g ∷ gs) z = absurd z
all_within nodes (item ∷ items) [] z = absurd z
all_within nodes (item ∷ items) (g ∷ gs) z = (within nodes item g z.0, all_within nodes items gs z.1)

-- ---- a row that is filled

abbrev filled : List (Option ℕ) → List (ℕ × ℕ) → List (Option ℕ)
filled row [] = row
filled row (g ∷ gs) = filled (slice_set row g.0 (Some g.1)) gs

-- each node has none before
abbrev Fresh : List (Option ℕ) → List (ℕ × ℕ) → Type 0
Fresh row [] = Unit {0}
Fresh row (g ∷ gs) = (is_some (slice_index_or row g.0 None) ≡ false) × Fresh (slice_set row g.0 (Some g.1)) gs

pub row_is_read : (nodes : ℕ) (row : List (Option ℕ)) (items : List (List ℕ)) (gs : List (ℕ × ℕ)) → Given nodes items gs → Fresh row gs
    → row_of nodes row items ≡ Some (filled row gs)
unfolding row_of
row_is_read nodes row [] [] z fresh = refl
row_is_read nodes row [] (g ∷ gs) z fresh = absurd z
row_is_read nodes row (item ∷ items) [] z fresh = absurd z
row_is_read nodes row (item ∷ items) (g ∷ gs) z fresh =
    rw z.0 (rw fresh.0 (row_is_read nodes (slice_set row g.0 (Some g.1)) items gs z.1 fresh.1))

record IsRead (nodes : ℕ) (row : List (Option ℕ)) (items : List (List ℕ)) (row' : List (Option ℕ)) : Type 0 where
  given : List (ℕ × ℕ)
  read : Given nodes items given
  fresh : Fresh row given
  is : row' ≡ filled row given

is_read : (nodes : ℕ) (row : List (Option ℕ)) (items : List (List ℕ)) (row' : List (Option ℕ)) → row_of nodes row items ≡ Some row'
    → IsRead nodes row items row'
unfolding row_of
is_read nodes row [] row' e = record { given = []; read = tt; fresh = tt; is = sym (some-injective row row' e) }
is_read nodes row (item ∷ items) row' e =
    by_item (λ g. is_read nodes (slice_set row g.0 (Some g.1)) items row') (item_of nodes item) refl e
  where
    by_room : (g : ℕ × ℕ) (b : Bool) → (row_of nodes (slice_set row g.0 (Some g.1)) items ≡ Some row' → IsRead nodes (slice_set row g.0 (Some g.1)) items row')
        → item_of nodes item ≡ Some g → is_some (slice_index_or row g.0 None) ≡ b
        → option_and_then (λ more. row_of nodes more items) (cond b None (Some (slice_set row g.0 (Some g.1)))) ≡ Some row'
        → IsRead nodes row (item ∷ items) row'
    by_room g true others is has e = none_or_some row' e
    by_room g false others is lacks e =
        let rest = others e in
        record { given = g ∷ rest.given; read = (is, rest.read); fresh = (lacks, rest.fresh); is = rest.is }

    by_item : ((g : ℕ × ℕ) → row_of nodes (slice_set row g.0 (Some g.1)) items ≡ Some row' → IsRead nodes (slice_set row g.0 (Some g.1)) items row')
        → (o : Option (ℕ × ℕ)) → item_of nodes item ≡ o
        → option_and_then (λ more. row_of nodes more items)
        (option_and_then (λ g. cond (is_some (slice_index_or row g.0 None)) None (Some (slice_set row g.0 (Some g.1)))) o) ≡ Some row'
        → IsRead nodes row (item ∷ items) row'
    by_item others None is e = none_or_some row' e
    by_item others (Some g) is e = by_room g (is_some (slice_index_or row g.0 None)) (others g) is refl e

-- ---- distinct nodes

same_or_not : (a b : ℕ) {C : Type 0} → (nat_eq a b ≡ true → a ≡ b → C) → (nat_eq a b ≡ false → b ≢ a → C) → C
same_or_not a b {C} alike apart = go (nat_eq a b) refl
  where
    go : (t : Bool) → nat_eq a b ≡ t → C
    go true is = alike is (grind (arith, nat_tests))
    go false is = apart is (λ same. absurd (grind (arith, nat_tests)))

others_apart : (n : ℕ) (row : List (Option ℕ)) (gs : List (ℕ × ℕ)) → is_some (slice_index_or row n None) ≡ true → Fresh row gs
    → AllByRecursion (λ m. nat_eq n m ≡ false) (named gs)
others_apart n row [] has fresh = tt
others_apart n row (g ∷ gs) has fresh =
    same_or_not n g.0
    (λ is same. absurd (true≢false (sym has ∙ ap (λ m. is_some (slice_index_or row m None)) same ∙ fresh.0)))
    (λ is other. (
      is,
      others_apart n (slice_set row g.0 (Some g.1)) gs
          (ap is_some (get_or-set_other row g.0 n (Some g.1) None (λ same. other (sym same))) ∙ has) fresh.1,
    ))

distinct : (row : List (Option ℕ)) (gs : List (ℕ × ℕ)) → AllByRecursion (λ n. n < length row) (named gs) → Fresh row gs → IsDistinct nat_eq (named gs)
unfolding IsDistinct
distinct row [] low fresh = tt
distinct row (g ∷ gs) low fresh =
    let row1 = slice_set row g.0 (Some g.1) in
    let has : is_some (slice_index_or row1 g.0 None) ≡ true = ap is_some (get_or-set_same row g.0 (Some g.1) None low.0) in
    let same : length row1 ≡ length row = length-set row g.0 (Some g.1) in (
      others_apart g.0 row1 gs has fresh.1,
      distinct row1 gs (subst (λ k. AllByRecursion (λ n. n < k) (named gs)) (sym same) low.1) fresh.1,
    )

lack_still : (row : List (Option ℕ)) (n w : ℕ) (ms : List ℕ) → AllByRecursion (λ m. is_some (slice_index_or row m None) ≡ false) ms
    → AllByRecursion (λ m. nat_eq n m ≡ false) ms → AllByRecursion (λ m. is_some (slice_index_or (slice_set row n (Some w)) m None) ≡ false) ms
lack_still row n w [] lack apart = tt
lack_still row n w (m ∷ ms) lack apart =
    let other : m ≢ n = λ same. absurd (grind (arith, nat_tests)) in
    (ap is_some (get_or-set_other row n m (Some w) None other) ∙ lack.0, lack_still row n w ms lack.1 apart.1)

fresh : (row : List (Option ℕ)) (gs : List (ℕ × ℕ)) → AllByRecursion (λ m. is_some (slice_index_or row m None) ≡ false) (named gs)
    → IsDistinct nat_eq (named gs) → Fresh row gs
unfolding IsDistinct
fresh row [] lack once = tt
fresh row (g ∷ gs) lack once =
    (lack.0, fresh (slice_set row g.0 (Some g.1)) gs (lack_still row g.0 g.1 (named gs) lack.1 once.0) once.1)

none_yet : (nodes : ℕ) (ms : List ℕ) → AllByRecursion (λ m. m < nodes) ms
    → AllByRecursion (λ m. is_some (slice_index_or (replicate {A = Option ℕ} nodes None) m None) ≡ false) ms
none_yet nodes [] low = tt
none_yet nodes (m ∷ ms) low = (ap is_some (get_or-replicate nodes m None None low.0), none_yet nodes ms low.1)

-- ---- the weights

or_none : (o : Option ℕ) → option_or o None ≡ o
or_none None = refl
or_none (Some x) = refl

is_none : (o : Option ℕ) → is_some o ≡ false → o ≡ None
is_none None e = refl
is_none (Some x) e = absurd (true≢false e)

filled_at : (row : List (Option ℕ)) (gs : List (ℕ × ℕ)) (n : ℕ) → n < length row → Fresh row gs
    → slice_index_or (filled row gs) n None ≡ option_or (slice_index_or row n None) (lookup (λ m. nat_eq m n) gs)
filled_at row [] n low fresh = sym (or_none (slice_index_or row n None))
filled_at row (g ∷ gs) n low fresh =
    let row1 = slice_set row g.0 (Some g.1) in
    let same_length : length row1 ≡ length row = length-set row g.0 (Some g.1) in
    let rest = filled_at row1 gs n (omega arith) fresh.1 in
    same_or_not g.0 n
    (λ is same. rest
    ∙ ap (λ o. option_or o (lookup (λ m. nat_eq m n) gs)) (ap (λ k. slice_index_or row1 k None) (sym same) ∙ get_or-set_same row g.0 (Some g.1) None (omega arith))
    ∙ sym (ap (λ o. option_or o (cond (nat_eq g.0 n) (Some g.1) (lookup (λ m. nat_eq m n) gs))) (ap (λ k. slice_index_or row k None) (sym same) ∙ is_none (slice_index_or row g.0 None) fresh.0)
    ∙ ap (λ b. cond b (Some g.1) (lookup (λ m. nat_eq m n) gs)) is))
    (λ is other. rest
    ∙ ap (λ o. option_or o (lookup (λ m. nat_eq m n) gs)) (get_or-set_other row g.0 n (Some g.1) None other)
    ∙ sym (ap (λ b. option_or (slice_index_or row n None) (cond b (Some g.1) (lookup (λ m. nat_eq m n) gs))) is))

filled_length : (row : List (Option ℕ)) (gs : List (ℕ × ℕ)) → length (filled row gs) ≡ length row
filled_length row [] = refl
filled_length row (g ∷ gs) = filled_length (slice_set row g.0 (Some g.1)) gs ∙ length-set row g.0 (Some g.1)

module _ (nodes : ℕ) (items : List (List ℕ)) (gs : List (ℕ × ℕ)) (read : Given nodes items gs) where
  laid : Fresh (replicate {A = Option ℕ} nodes None) gs
      → map (λ w. unwrap_or w 1) (filled (replicate {A = Option ℕ} nodes None) gs) ≡ map (weight_of gs) (range_with_len 0 nodes)
  laid new =
      let row : List (Option ℕ) = filled (replicate {A = Option ℕ} nodes None) gs in
      let long : length row ≡ nodes = filled_length (replicate {A = Option ℕ} nodes None) gs ∙ length-replicate {A = Option ℕ} nodes None in
      let as_long : length (map (λ w. unwrap_or w 1) row) ≡ length row = length-map row (λ w. unwrap_or w 1) in
      ext_get_or 0 (map (λ w. unwrap_or w 1) row) (map (weight_of gs) (range_with_len 0 nodes))
      (as_long ∙ long ∙ sym (length-map-range_with_len (weight_of gs) 0 nodes))
      (λ n low. get_or-map (λ w. unwrap_or w 1) row n None 0 (omega arith)
      ∙ ap (λ w. unwrap_or w 1) (filled_at (replicate {A = Option ℕ} nodes None) gs n (omega (arith, length-replicate {A = Option ℕ} nodes None)) new
      ∙ ap (λ o. option_or o (lookup (λ m. nat_eq m n) gs)) (get_or-replicate nodes n None None (omega arith)))
      ∙ sym (get_or-map-range_with_len (weight_of gs) 0 nodes n n 0 (omega arith) (omega arith)))

  once_of : Fresh (replicate {A = Option ℕ} nodes None) gs → IsDistinct nat_eq (named gs)
  once_of = distinct (replicate {A = Option ℕ} nodes None) gs
      (subst (λ k. AllByRecursion (λ n. n < k) (named gs)) (sym (length-replicate {A = Option ℕ} nodes None)) (all_within nodes items gs read))

  fresh_of : IsDistinct nat_eq (named gs) → Fresh (replicate {A = Option ℕ} nodes None) gs
  fresh_of = fresh (replicate {A = Option ℕ} nodes None) gs (none_yet nodes (named gs) (all_within nodes items gs read))

by_row : (nodes : ℕ) (text weights : List ℕ) (o : Option (List (Option ℕ))) → row_of nodes (replicate nodes None) (parts 44 text) ≡ o
    → option_map (map (λ w. unwrap_or w 1)) o ≡ Some weights → AreByName nodes text weights
by_row nodes text weights None is e = none_or_some weights e
by_row nodes text weights (Some row) is e =
    let r : IsRead nodes (replicate nodes None) (parts 44 text) row = is_read nodes (replicate nodes None) (parts 44 text) row is in
    record {
      given = r.given;
      read = r.read;
      once = once_of nodes (parts 44 text) r.given r.read r.fresh;
      each =
          sym (some-injective (map (λ w. unwrap_or w 1) row) weights e) ∙ ap (map (λ w. unwrap_or w 1)) r.is
          ∙ laid nodes (parts 44 text) r.given r.read r.fresh;
    }

pub weights_are_by_name : WeightsAreByName
weights_are_by_name nodes text weights = (
  by_row nodes text weights (row_of nodes (replicate nodes None) (parts 44 text)) refl,
  (λ a. let new : Fresh (replicate {A = Option ℕ} nodes None) a.given = fresh_of nodes (parts 44 text) a.given a.read a.once in
      ap (option_map (map (λ w. unwrap_or w 1))) (row_is_read nodes (replicate nodes None) (parts 44 text) a.given a.read new)
      ∙ ap (λ ws. Some ws) (laid nodes (parts 44 text) a.given a.read new ∙ sym a.each)),
)
