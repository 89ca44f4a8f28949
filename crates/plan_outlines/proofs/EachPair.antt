-- The pairs, one by one.
use Rattle.std.proofs.Common.{◌≡◌, ℕ, zero, suc, ◌+◌, ◌*◌, ◌<◌, ◌≤◌, cond, List, [], ◌∷◌, ◌++◌, filter, get_or, map, ap, refl, sym, subst, ◌∙◌, arith}
use Rattle.std.proofs.lemmas.List.{append_assoc, flat_map_more, map-id}
use Rattle.std.proofs.lemmas.List.FromFn.{filter_of_map_range_with_len_more, map-range_with_len_more}
use Rattle.std.specs.List.{flat_map, range_with_len}
use Rattle.std.specs.List.Sorted.{IsPermutation}
use Rattle.plan_outlines.specs.declared.pairs.PairChange.{PairChange}
use Rattle.plan_outlines.specs.Pairs.{is_move, moved_pairs, moving, moving_from, pair_change, pair_in, pair_keys}
use Rattle.plan_outlines.specs.Pairs.{pair_slots}

abbrev pair_of : ℕ → ℕ → ℕ → ℕ → PairChange
pair_of s t x y = record { source = s; target = t; slots = x; keys = y }

alike : (s t k x v y w : ℕ) → t ≡ k → x ≡ v → y ≡ w → pair_of s t x y ≡ pair_of s k v w
alike s t k x v y w e f g = λ i. pair_of s (e i) (f i) (g i)

read : (n : ℕ) (slots keys : List ℕ) (s t k p : ℕ) → t ≡ k → p ≡ s * n + t → pair_of s t (get_or slots p 0) (get_or keys p 0) ≡ pair_in n slots keys s k
read n slots keys s t k p e at =
    let place : p ≡ s * n + k = at ∙ ap (λ m. s * n + m) e in
    alike s t k (get_or slots p 0) (get_or slots (s * n + k) 0) (get_or keys p 0) (get_or keys (s * n + k) 0) e (ap (λ m. get_or slots m 0) place) (ap (λ m. get_or keys m 0) place)

pub target_more : (n : ℕ) (slots keys : List ℕ) (s t k p : ℕ) (start now new : List PairChange) → t ≡ k → p ≡ s * n + t → now ≡ start ++ moving_from (pair_in n slots keys s) k → new ≡ now ++ cond (is_move (pair_of s t (get_or slots p 0) (get_or keys p 0))) (pair_of s t (get_or slots p 0) (get_or keys p 0) ∷ []) [] → new ≡ start ++ moving_from (pair_in n slots keys s) (k + 1)
target_more n slots keys s t k p start now new e at so_far pushed =
    let f : ℕ → PairChange = pair_in n slots keys s in
    pushed ∙ ap (λ ps. ps ++ cond (is_move (pair_of s t (get_or slots p 0) (get_or keys p 0))) (pair_of s t (get_or slots p 0) (get_or keys p 0) ∷ []) []) so_far
    ∙ ap (λ (q : PairChange). start ++ moving_from f k ++ cond (is_move q) (q ∷ []) []) (read n slots keys s t k p e at)
    ∙ append_assoc start (moving_from f k) (cond (is_move (f k)) (f k ∷ []) [])
    ∙ ap (λ ps. start ++ ps) (sym (filter_of_map_range_with_len_more is_move f 0 k k (omega arith)))

one_more : (k : ℕ) → range_with_len 0 (k + 1) ≡ range_with_len 0 k ++ k ∷ []
one_more k =
    sym (map-id (range_with_len 0 (k + 1))) ∙ map-range_with_len_more (λ i. i) 0 k k (omega arith)
    ∙ ap (λ xs. xs ++ k ∷ []) (map-id (range_with_len 0 k))

pub source_more : (F : ℕ → List PairChange) (k m : ℕ) (now new : List PairChange) → m ≡ k → now ≡ flat_map F (range_with_len 0 k) → new ≡ now ++ F m → new ≡ flat_map F (range_with_len 0 (k + 1))
source_more F k m now new e so_far pushed =
    pushed ∙ ap (λ ps. ps ++ F m) so_far ∙ ap (λ i. flat_map F (range_with_len 0 k) ++ F i) e
    ∙ flat_map_more F [] (range_with_len 0 k) k ∙ sym (ap (flat_map F) (one_more k))

-- ---- two functions that agree on the pairs of these nodes

same_maps : {X : Type 0} (f g : ℕ → X) (a n : ℕ) → ((k : ℕ) → a ≤ k → k < a + n → f k ≡ g k) → map f (range_with_len a n) ≡ map g (range_with_len a n)
same_maps f g a zero h = refl
same_maps f g a (suc n) h =
    ap (λ x. x ∷ map f (range_with_len (a + 1) n)) (h a (omega arith) (omega arith))
    ∙ ap (λ xs. g a ∷ xs) (same_maps f g (a + 1) n (λ k low high. h k (omega arith) (omega arith)))

same_flat : {X : Type 0} (f g : ℕ → List X) (a n : ℕ) → ((k : ℕ) → a ≤ k → k < a + n → f k ≡ g k) → flat_map f (range_with_len a n) ≡ flat_map g (range_with_len a n)
same_flat f g a zero h = refl
same_flat f g a (suc n) h =
    ap (λ x. x ++ flat_map f (range_with_len (a + 1) n)) (h a (omega arith) (omega arith))
    ∙ ap (λ xs. g a ++ xs) (same_flat f g (a + 1) n (λ k low high. h k (omega arith) (omega arith)))

are_moved : (n : ℕ) (before after keys slots_in keys_in : List ℕ) → ((s t : ℕ) → s < n → t < n → get_or slots_in (s * n + t) 0 ≡ pair_slots before after s t) → ((s t : ℕ) → s < n → t < n → get_or keys_in (s * n + t) 0 ≡ pair_keys keys before after s t) → moving (pair_in n slots_in keys_in) n ≡ moved_pairs n before after keys
are_moved n before after keys slots_in keys_in f g =
    same_flat (λ s. moving_from (pair_in n slots_in keys_in s) n) (λ s. moving_from (pair_change before after keys s) n) 0 n (λ s _ ls. ap (filter is_move) (same_maps (pair_in n slots_in keys_in s) (pair_change before after keys s) 0 n (λ t _ lt. alike s t t (get_or slots_in (s * n + t) 0) (pair_slots before after s t) (get_or keys_in (s * n + t) 0) (pair_keys keys before after s t) refl (f s t (omega (arith, ls)) (omega (arith, lt))) (g s t (omega (arith, ls)) (omega (arith, lt))))))

pub sorted_pairs : (n : ℕ) (before after keys slots_in keys_in slots_read keys_read : List ℕ) (pairs sorted : List PairChange) → slots_read ≡ slots_in → keys_read ≡ keys_in → ((s t : ℕ) → s < n → t < n → get_or slots_in (s * n + t) 0 ≡ pair_slots before after s t) → ((s t : ℕ) → s < n → t < n → get_or keys_in (s * n + t) 0 ≡ pair_keys keys before after s t) → pairs ≡ moving (pair_in n slots_read keys_read) n → IsPermutation pairs sorted → IsPermutation (moved_pairs n before after keys) sorted
sorted_pairs n before after keys slots_in keys_in slots_read keys_read pairs sorted a b f g is moved =
    subst (λ ps. IsPermutation ps sorted)
    (is ∙ ap (λ xs. moving (pair_in n xs keys_read) n) a ∙ ap (λ xs. moving (pair_in n slots_in xs) n) b ∙ are_moved n before after keys slots_in keys_in f g) moved
