-- That there are no lines.
use Rattle.std.proofs.Common.{◌≡◌, ℕ, ◌+◌, true, false, cond, ◌==◌, List, [], ◌∷◌, ◌++◌, length}
use Rattle.std.proofs.Common.{append-nil, length-append, ap, ◌∙◌, arith}
use Rattle.std.proofs.lemmas.Bool.Decides.{nat_tests}
use Rattle.plan_pages.specs.Words.{none_line, or_none}

-- that there are none is put after no text alone
pub none_put : (old t mid : List ℕ) (start : ℕ) → start ≡ length old → mid ≡ old ++ t
    → mid ++ cond (length mid == start) none_line [] ≡ old ++ or_none t
none_put old [] mid start begin put =
    let whole : length mid ≡ length old + 0 = ap length put ∙ length-append old [] in
    let same : (length mid == start) ≡ true = grind (arith, nat_tests) in
    ap (λ b. mid ++ cond b none_line []) same ∙ ap (λ m. m ++ none_line) (put ∙ append-nil old)
none_put old (b ∷ t) mid start begin put =
    let whole : length mid ≡ length old + length (b ∷ t) = ap length put ∙ length-append old (b ∷ t) in
    let other : (length mid == start) ≡ false = grind (arith, nat_tests) in
    ap (λ c. mid ++ cond c none_line []) other ∙ append-nil mid ∙ put
