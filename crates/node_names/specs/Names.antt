-- The nodes that a plan lists, with the names that their servers give themselves.
use Rattle.std.specs.Prelude.{◌≡◌, ℕ, ◌<◌, Bool, true, false, ◌&&◌, ◌||◌, ◌==◌, nat_eq, nat_lt, nat_le}
use Rattle.std.specs.Prelude.{List, [], ◌∷◌, ◌++◌, length}
use Rattle.std.specs.Cmp.Lexicographic.{pointwise}
use Rattle.std.specs.List.{list_all, list_any}

-- nodes and their names, in the order of their lines
abbrev pub Names : Type 0
Names = List (ℕ × List ℕ)

-- `0` to `9` and `a` to `f`
abbrev pub is_name_digit : ℕ → Bool
is_name_digit b = nat_le 48 b && nat_le b 57 || nat_le 97 b && nat_le b 102

-- a name is 40 hexadecimal digits in lower case
abbrev pub is_name : List ℕ → Bool
is_name t = length t == 40 && list_all is_name_digit t

-- whether the node is listed
abbrev pub has_node : Names → (node : ℕ) → Bool
has_node names node = list_any (λ p. p.0 == node) names

-- whether one of them has the name
abbrev pub has_name : Names → (name : List ℕ) → Bool
has_name names name = list_any (λ p. pointwise nat_eq p.1 name) names

-- whether each of them is below the node
abbrev pub are_below : Names → (node : ℕ) → Bool
are_below names node = list_all (λ p. nat_lt p.0 node) names

-- after these may stand: a node above each of them, with a name that none of them has
abbrev pub IsNext : Names → ℕ × List ℕ → Type 0
IsNext names p =
    (p.0 < 255) × (are_below names p.0 ≡ true) × (is_name p.1 ≡ true) × (has_name names p.1 ≡ false)

-- so the second may stand after the first, one after the other
abbrev pub AreNext : (before names : Names) → Type 0
AreNext before [] = Unit {0}
AreNext before (p ∷ names) = IsNext before p × AreNext (before ++ p ∷ []) names

abbrev pub AreNames : Names → Type 0
AreNames names = AreNext [] names
