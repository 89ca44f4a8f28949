-- Words and numbers in columns.
use Rattle.std.specs.Prelude.{ℕ, ◌-◌, ◌==◌, List, [], ◌∷◌, ◌++◌, cond, codes, decimal, length, replicate}

abbrev pub spaces : ℕ → List ℕ
spaces n = replicate n 32

-- with spaces before it, so that the whole has this width at least
abbrev pub right : (width : ℕ) → List ℕ → List ℕ
right w t = spaces (w - length t) ++ t

-- with spaces after it
abbrev pub left : (width : ℕ) → List ℕ → List ℕ
left w t = t ++ spaces (w - length t)

-- `n` and the number
abbrev pub node_text : ℕ → List ℕ
node_text n = 110 ∷ decimal n

-- `n0 -> n2`
abbrev pub pair_text : (source target : ℕ) → List ℕ
pair_text a b = node_text a ++ (codes " -> " ++ node_text b)

abbrev pub slot_word : ℕ → List ℕ
slot_word n = cond (n == 1) (codes " slot") (codes " slots")

abbrev pub key_word : ℕ → List ℕ
key_word n = cond (n == 1) (codes " key") (codes " keys")

-- `683 slots`, right-aligned
unfoldable pub slots_column : (width slots : ℕ) → List ℕ
slots_column w n = right (w - length (slot_word n)) (decimal n) ++ slot_word n

-- what stands in place of a list that is empty
unfoldable pub none_line : List ℕ
none_line = codes "  none\n"

-- the lines, or that there are none
abbrev pub or_none : List ℕ → List ℕ
or_none [] = none_line
or_none (b ∷ lines) = b ∷ lines
