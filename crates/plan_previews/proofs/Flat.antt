-- Lists of what each slot gives, put one after the other.
use Rattle.std.proofs.Common.{◌≡◌, ℕ, ◌+◌, ◌<◌, ◌≤◌, List, ◌++◌, append_assoc, append-nil, sym, ap, ◌∙◌}
use Rattle.std.specs.List.{flat_map}
use Rattle.cluster_views.specs.Numbers.{numbers_to}
use Rattle.cluster_views.proofs.Firsts.{from_first, from_last, from_next, numbers_from}

module _ {A : Type 0} (f : ℕ → List A) where
  pub flat_first : (n : ℕ) → flat_map f (numbers_to n) ≡ flat_map f (numbers_from n 0)
  flat_first n = ap (flat_map f) (from_first n)

  pub flat_more : (n i m : ℕ) (whole out out' : List A) → i < n → m ≡ i → whole ≡ out ++ flat_map f (numbers_from n i)
      → out' ≡ out ++ f m → whole ≡ out' ++ flat_map f (numbers_from n (i + 1))
  flat_more n i m whole out out' lt same before put =
      before
      ∙ ap (λ xs. out ++ flat_map f xs) (from_next n i lt)
      ∙ sym (append_assoc out (f i) (flat_map f (numbers_from n (i + 1))))
      ∙ ap (λ t. t ++ flat_map f (numbers_from n (i + 1))) (ap (λ k. out ++ f k) (sym same) ∙ sym put)

  pub flat_end : (n i : ℕ) (whole out : List A) → n ≤ i → whole ≡ out ++ flat_map f (numbers_from n i) → out ≡ whole
  flat_end n i whole out le before =
      sym (before ∙ ap (λ xs. out ++ flat_map f xs) (from_last n i le) ∙ append-nil out)
