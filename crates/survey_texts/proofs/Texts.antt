-- Texts that are put one after the other.
use Rattle.std.proofs.Common.{◌≡◌, ℕ, ◌+◌, ◌<◌, ◌≤◌, Bool, cond, List, ◌++◌, append_assoc, append-nil}
use Rattle.std.proofs.Common.{add_assoc, zero-add}
use Rattle.std.proofs.Common.{sym, ap, ◌∙◌, arith}
use Rattle.std.proofs.lemmas.List.Sums.{sum_by-cons}
use Rattle.std.specs.List.{count_by, flat_map}
use Rattle.cluster_views.specs.Numbers.{numbers_to}
use Rattle.cluster_views.proofs.Firsts.{from_first, from_last, from_next, numbers_from}

-- the text of each number, from 0 on, after what is there
pub flat_first : (f : ℕ → List ℕ) (n : ℕ) (old : List ℕ)
    → old ++ flat_map f (numbers_to n) ≡ old ++ flat_map f (numbers_from n 0)
flat_first f n old = ap (λ xs. old ++ flat_map f xs) (from_first n)

pub flat_more : (f : ℕ → List ℕ) (n i m : ℕ) (whole out out' : List ℕ) → i < n → m ≡ i
    → whole ≡ out ++ flat_map f (numbers_from n i) → out' ≡ out ++ f m → whole ≡ out' ++ flat_map f (numbers_from n (i + 1))
flat_more f n i m whole out out' lt same before put =
    before
    ∙ ap (λ xs. out ++ flat_map f xs) (from_next n i lt)
    ∙ sym (append_assoc out (f i) (flat_map f (numbers_from n (i + 1))))
    ∙ ap (λ t. t ++ flat_map f (numbers_from n (i + 1))) (ap (λ k. out ++ f k) (sym same) ∙ sym put)

pub flat_end : (f : ℕ → List ℕ) (n i : ℕ) (whole out : List ℕ) → n ≤ i → whole ≡ out ++ flat_map f (numbers_from n i)
    → out ≡ whole
flat_end f n i whole out le before =
    sym (before ∙ ap (λ xs. out ++ flat_map f xs) (from_last n i le) ∙ append-nil out)

-- ---- how many numbers pass

pub count_first : (p : ℕ → Bool) (n : ℕ) → count_by p (numbers_to n) ≡ 0 + count_by p (numbers_from n 0)
count_first p n = ap (count_by p) (from_first n) ∙ sym (zero-add (count_by p (numbers_from n 0)))

pub count_more : (p : ℕ → Bool) (n i m : ℕ) (all count one : ℕ) → i < n → m ≡ i
    → all ≡ count + count_by p (numbers_from n i) → one ≡ cond (p m) 1 0
    → all ≡ count + one + count_by p (numbers_from n (i + 1))
count_more p n i m all count one lt same before is =
    before
    ∙ ap (λ xs. count + count_by p xs) (from_next n i lt)
    ∙ ap (λ k. count + k) (sum_by-cons (λ x. cond (p x) 1 0) i (numbers_from n (i + 1)))
    ∙ sym (add_assoc count (cond (p i) 1 0) (count_by p (numbers_from n (i + 1))))
    ∙ ap (λ k. count + k + count_by p (numbers_from n (i + 1))) (ap (λ j. cond (p j) 1 0) (sym same) ∙ sym is)

pub count_end : (p : ℕ → Bool) (n i count : ℕ) → n ≤ i → count_by p (numbers_to n) ≡ count + count_by p (numbers_from n i)
    → count ≡ count_by p (numbers_to n)
count_end p n i count le before =
    let none : count_by p (numbers_from n i) ≡ 0 = ap (count_by p) (from_last n i le) in
    omega (arith, before, none)
