-- What is put at the end of a text, part by part.
use Rattle.std.proofs.Common.{◌≡◌, ℕ, ◌+◌, ◌<◌, [], ◌∷◌, ap, sym}
use Rattle.std.proofs.lemmas.Fmt.{decimal_digit}
use Rattle.plan_language.specs.Texts.{node_text}

-- a node's number of one digit
pub node_name : (n : ℕ) → n < 10 → 110 ∷ (48 + n) ∷ [] ≡ node_text n
node_name n h = ap (λ t. 110 ∷ t) (sym (decimal_digit n h))
