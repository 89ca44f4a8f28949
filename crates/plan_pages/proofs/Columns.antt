-- Texts with spaces after them.
use Rattle.std.proofs.Common.{◌≡◌, ℕ, ◌+◌, ◌-◌, List, [], ◌∷◌, ◌++◌, length, append_assoc, length-append}
use Rattle.std.proofs.Common.{ap, ◌∙◌, arith}
use Rattle.std.proofs.lemmas.List.{replicate-append-replicate}
use Rattle.plan_pages.specs.Words.{left, spaces}

-- what was written since is the text
pub written : (old t mid : List ℕ) (start : ℕ) → start ≡ length old → mid ≡ old ++ t → length mid - start ≡ length t
written old t mid start begin put =
    let whole : length mid ≡ length old + length t = ap length put ∙ length-append old t in
    omega (arith, begin, whole)

pub filled : (old t mid : List ℕ) (start w : ℕ) → start ≡ length old → mid ≡ old ++ t
    → mid ++ spaces (w - (length mid - start)) ≡ old ++ left w t
filled old t mid start w begin put =
    ap (λ n. mid ++ spaces (w - n)) (written old t mid start begin put)
    ∙ ap (λ m. m ++ spaces (w - length t)) put
    ∙ append_assoc old t (spaces (w - length t))

-- one space more
pub one_space : (n : ℕ) → spaces n ++ 32 ∷ [] ≡ spaces (n + 1)
one_space n = replicate-append-replicate n 1 32
