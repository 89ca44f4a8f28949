-- Texts that are put one after the other.
use Rattle.std.proofs.Common.{◌≡◌, ◌∙◌, ℕ, List, ◌++◌, Result, Ok, Err, ap}
use Rattle.std.proofs.lemmas.List.{append_assoc}
use Rattle.std.specs.Prelude.{OnOk}

pub three : {T E : Type 0} (r : Result T E) (old a b c first second last : List ℕ) → first ≡ old ++ a
    → second ≡ first ++ b → OnOk r (last ≡ second ++ c) → OnOk r (last ≡ old ++ (a ++ (b ++ c)))
three (Ok t) old a b c first second last one two then =
    then ∙ (ap (λ x. x ++ c) (two ∙ ap (λ x. x ++ b) one)
    ∙ (append_assoc (old ++ a) b c ∙ append_assoc old a (b ++ c)))
three (Err e) old a b c first second last one two then = tt
