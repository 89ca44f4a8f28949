-- What is put one after the other.
use Rattle.std.proofs.Common.{◌≡◌, List, ◌++◌, Result, Ok, Err, append_assoc, ap, ◌∙◌}
use Rattle.std.specs.Result.{OnOk}

pub on_ok_of : {T E P : Type 0} (r : Result T E) → P → OnOk r P
on_ok_of (Ok x) p = p
on_ok_of (Err e) p = tt

pub two : {A : Type 0} (x0 x1 x2 a b : List A) → x1 ≡ x0 ++ a → x2 ≡ x1 ++ b → x2 ≡ x0 ++ (a ++ b)
two x0 x1 x2 a b p q = q ∙ ap (λ t. t ++ b) p ∙ append_assoc x0 a b

pub three : {A : Type 0} (x0 x1 x2 x3 a b c : List A) → x1 ≡ x0 ++ a → x2 ≡ x1 ++ b → x3 ≡ x2 ++ c
    → x3 ≡ x0 ++ (a ++ (b ++ c))
three x0 x1 x2 x3 a b c p q r = two x0 x1 x3 a (b ++ c) p (two x1 x2 x3 b c q r)

pub four : {A : Type 0} (x0 x1 x2 x3 x4 a b c d : List A) → x1 ≡ x0 ++ a → x2 ≡ x1 ++ b → x3 ≡ x2 ++ c
    → x4 ≡ x3 ++ d → x4 ≡ x0 ++ (a ++ (b ++ (c ++ d)))
four x0 x1 x2 x3 x4 a b c d p q r s = two x0 x1 x4 a (b ++ (c ++ d)) p (three x1 x2 x3 x4 b c d q r s)

pub five : {A : Type 0} (x0 x1 x2 x3 x4 x5 a b c d e : List A) → x1 ≡ x0 ++ a → x2 ≡ x1 ++ b → x3 ≡ x2 ++ c
    → x4 ≡ x3 ++ d → x5 ≡ x4 ++ e → x5 ≡ x0 ++ (a ++ (b ++ (c ++ (d ++ e))))
five x0 x1 x2 x3 x4 x5 a b c d e p q r s u =
    two x0 x1 x5 a (b ++ (c ++ (d ++ e))) p (four x1 x2 x3 x4 x5 b c d e q r s u)
