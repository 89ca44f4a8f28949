-- What a search among keys in order answers.
use Rattle.std.proofs.Common.{◌≡◌, ℕ, ⊎_elim, List, [], length, Result, Ok, Err, is_ok, sym, ap, ◌∙◌, arith}
use Rattle.std.specs.List.Sorted.{IsSorted, IsBinarySearchResult, IsSearchInRange}
use Rattle.std.specs.Ordering.{nat_cmp, is_eq}
use Rattle.std.specs.Prelude.{nat_eq}
use Rattle.std.specs.declared.cmp.Ordering.{Ordering}
use Rattle.std.specs.Cmp.Lexicographic.{pointwise, slice_cmp, nat_list_cmp_total, nat_list_eq_equiv, texts_ties}
use Rattle.std.proofs.lemmas.Bool.{cases_lt}
use Rattle.std.proofs.lemmas.List.Folds.{list_any_at, list_any_none}
use Rattle.std.proofs.lemmas.List.Sorted.{searchable_from_sorted}
use Rattle.server_settling.specs.Keys.{has}

tied : (y q : List ℕ) (o : Ordering) → slice_cmp nat_cmp y q ≡ o → pointwise nat_eq q y ≡ is_eq o
tied y q o e = nat_list_eq_equiv.symm q y ∙ texts_ties y q ∙ ap is_eq e

pub found : (xs : List (List ℕ)) (q : List ℕ) (r : Result ℕ ℕ) → IsSearchInRange r (length xs)
    → IsSorted (slice_cmp nat_cmp) xs → IsBinarySearchResult (λ y. slice_cmp nat_cmp y q) xs r → is_ok r ≡ has xs q
found xs q (Ok i) within up at = sym (list_any_at (pointwise nat_eq q) xs i [] within (tied _ q _ (at [])))
found xs q (Err i) within up parted =
    let parts = parted (searchable_from_sorted nat_list_cmp_total (λ y. y) xs q up) in
    sym (list_any_none (pointwise nat_eq q) xs (λ k d l. ⊎_elim
    (λ before. tied _ q _ (parts.0 k d (omega arith) before))
    (λ behind. tied _ q _ (parts.1 k d behind l))
    (cases_lt k i)))
