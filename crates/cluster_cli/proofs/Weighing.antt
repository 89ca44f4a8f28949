-- What is read of weights that are given by name.
use Rattle.std.proofs.Common.{◌≡◌, ◌∙◌, ℕ, ◌+◌, ◌<◌, ◌≤◌, true, false, List, [], ◌∷◌, length, drop, map, refl, sym, ap, arith, get_or, slice_index_or, slice_set, Bor}
use Rattle.std.specs.Prelude.{IfSome, Option, Some, None, unwrap_or}
use Rattle.std.specs.List.{All}
use Rattle.std.specs.Option.{is_some}
use Rattle.std.proofs.lemmas.List.{drop_all, drop_more, get_or_default}
use Rattle.std.proofs.lemmas.List.Elements.{All-map, All-weaker}
use Rattle.cluster_cli.specs.WeightsByName.{item_of, row_of}
use Rattle.cluster_cli.proofs.Listing.{texts}

none_left : (nodes : ℕ) (row : List (Option ℕ)) → row_of nodes row [] ≡ Some row
unfolding row_of
none_left nodes row = refl

none_given : (nodes : ℕ) (row : List (Option ℕ)) (item : List ℕ) (items : List (List ℕ)) → item_of nodes item ≡ None
    → row_of nodes row (item ∷ items) ≡ None
unfolding row_of
none_given nodes row item items is = rw is refl

given_again : (nodes : ℕ) (row : List (Option ℕ)) (item : List ℕ) (items : List (List ℕ)) (n w : ℕ) → item_of nodes item ≡ Some (n, w)
    → is_some (slice_index_or row n None) ≡ true → row_of nodes row (item ∷ items) ≡ None
unfolding row_of
given_again nodes row item items n w is has = rw is (rw has refl)

given : (nodes : ℕ) (row : List (Option ℕ)) (item : List ℕ) (items : List (List ℕ)) (n w : ℕ) → item_of nodes item ≡ Some (n, w)
    → is_some (slice_index_or row n None) ≡ false → row_of nodes row (item ∷ items) ≡ row_of nodes (slice_set row n (Some w)) items
unfolding row_of
given nodes row item items n w is lacks = rw is (rw lacks refl)

-- the items before a place are read, and then that at the place
module _ (nodes : ℕ) (row : List (Option ℕ)) (items : List (Bor (List ℕ))) (i : ℕ) (whole : Option (List (Option ℕ)))
    (so_far : row_of nodes row (texts (drop i items)) ≡ whole) where
  to_next : (d : Bor (List ℕ)) → i < length items → row_of nodes row ((get_or items i d).now ∷ texts (drop (i + 1) items)) ≡ whole
  to_next d within = sym (ap (λ ws. row_of nodes row (texts ws)) (drop_more items i d within)) ∙ so_far

  pub stops_at_none : (d : Bor (List ℕ)) → i < length items → item_of nodes (get_or items i d).now ≡ None
      → ◌≡◌ {A = Option (List (Option ℕ))} None whole
  stops_at_none d within is = sym (none_given nodes row (get_or items i d).now (texts (drop (i + 1) items)) is) ∙ to_next d within

  -- the place that was looked at is that of the node
  module _ (d : Bor (List ℕ)) (n w place : ℕ) (seen : Option ℕ) (within : i < length items)
      (is : item_of nodes (get_or items i d).now ≡ Some (n, w)) (at : place ≡ n) (there : n < length row)
      (read : seen ≡ slice_index_or row place seen) where
    as_read : slice_index_or row n None ≡ seen
    as_read = sym (read ∙ ap (λ p. slice_index_or row p seen) at ∙ get_or_default row n seen None there)

    pub stops_at_second : is_some seen ≡ true → ◌≡◌ {A = Option (List (Option ℕ))} None whole
    stops_at_second has =
        sym (given_again nodes row (get_or items i d).now (texts (drop (i + 1) items)) n w is (ap is_some as_read ∙ has)) ∙ to_next d within

    pub goes_on : (v : ℕ) → v ≡ w → is_some seen ≡ false → row_of nodes (slice_set row place (Some v)) (texts (drop (i + 1) items)) ≡ whole
    goes_on v same lacks =
        ap (λ x. row_of nodes (slice_set row place (Some x)) (texts (drop (i + 1) items))) same
        ∙ ap (λ p. row_of nodes (slice_set row p (Some w)) (texts (drop (i + 1) items))) at
        ∙ sym (given nodes row (get_or items i d).now (texts (drop (i + 1) items)) n w is (ap is_some as_read ∙ lacks)) ∙ to_next d within

  pub ends : length items ≤ i → ◌≡◌ {A = Option (List (Option ℕ))} (Some row) whole
  ends past = sym (ap (λ ws. row_of nodes row (texts ws)) (drop_all i items past) ∙ none_left nodes row) ∙ so_far

-- ---- a weight where there is none

pub light_or_one : (row : List (Option ℕ)) → All (λ w. IfSome w (λ x. x ≤ 1000)) row → All (λ w. w ≤ 1000) (map (λ w. unwrap_or w 1) row)
light_or_one row light =
    All-map (λ w. w ≤ 1000) (λ w. unwrap_or w 1) row (All-weaker (λ w. IfSome w (λ x. x ≤ 1000)) (λ w. unwrap_or w 1 ≤ 1000) one row light)
  where
    one : (w : Option ℕ) → IfSome w (λ x. x ≤ 1000) → unwrap_or w 1 ≤ 1000
    one None is = omega arith
    one (Some x) is = is
