-- Lists that are filled up to a width.
use Rattle.std.specs.Prelude.{◌≡◌, ℕ, Bool, List, [], ◌∷◌, ◌++◌, length, take, refl}
use Rattle.std.proofs.Common.{ap, sym, ◌∙◌}

front : (xs ys : List Bool) → take (length xs) (xs ++ ys) ≡ xs
front [] ys = refl
front (x ∷ xs) ys = ap (λ l. x ∷ l) (front xs ys)

-- the front of a list that was filled up is what stood there
pub taken_back : (xs ys : List Bool) (n : ℕ) → length xs ≡ n → take n (xs ++ ys) ≡ xs
taken_back xs ys n e = ap (λ k. take k (xs ++ ys)) (sym e) ∙ front xs ys
