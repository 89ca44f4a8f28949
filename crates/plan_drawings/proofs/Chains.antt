-- Texts that are put one after the other.
use Rattle.std.proofs.Common.{◌≡◌, ℕ, List, ◌++◌, append_assoc, ap, ◌∙◌, Result, Ok, Err, OnOk}

two_put : (s t u a b : List ℕ) → t ≡ s ++ a → u ≡ t ++ b → u ≡ s ++ (a ++ b)
two_put s t u a b p q = q ∙ ap (λ (o : List ℕ). o ++ b) p ∙ append_assoc s a b

pub two : {T E : Type 0} (r : Result T E) (s t u a b : List ℕ) → t ≡ s ++ a → OnOk r (u ≡ t ++ b)
    → OnOk r (u ≡ s ++ (a ++ b))
two (Ok x) s t u a b p q = two_put s t u a b p q
two (Err e) s t u a b p q = q

pub three : {T E : Type 0} (r : Result T E) (s t u v a b c : List ℕ) → t ≡ s ++ a → u ≡ t ++ b → OnOk r (v ≡ u ++ c)
    → OnOk r (v ≡ s ++ (a ++ (b ++ c)))
three r s t u v a b c p q z = two r s t v a (b ++ c) p (two r t u v b c q z)

pub four : {T E : Type 0} (r : Result T E) (s t u v w a b c d : List ℕ) → t ≡ s ++ a → u ≡ t ++ b → v ≡ u ++ c
    → OnOk r (w ≡ v ++ d) → OnOk r (w ≡ s ++ (a ++ (b ++ (c ++ d))))
four r s t u v w a b c d p q y z = two r s t w a (b ++ (c ++ d)) p (three r t u v w b c d q y z)

pub five : {T E : Type 0} (r : Result T E) (s t u v w x a b c d e : List ℕ) → t ≡ s ++ a → u ≡ t ++ b → v ≡ u ++ c
    → w ≡ v ++ d → OnOk r (x ≡ w ++ e) → OnOk r (x ≡ s ++ (a ++ (b ++ (c ++ (d ++ e)))))
five r s t u v w x a b c d e p q y y' z = two r s t x a (b ++ (c ++ (d ++ e))) p (four r t u v w x b c d e q y y' z)
