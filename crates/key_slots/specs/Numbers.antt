-- The slots and nodes that texts name.
use Rattle.std.specs.Prelude.{ℕ, ◌-◌, ◌==◌, if◌then◌else◌, List, [], ◌∷◌, Option, None}
use Rattle.byte_texts.specs.Decimals.{number_in}

-- `0` to `16383`
abbrev pub slot_in : List ℕ → Option ℕ
slot_in t = number_in 0 16383 t

-- `n` and a number below `nodes`
abbrev pub node_among : (nodes : ℕ) → List ℕ → Option ℕ
node_among nodes [] = None
node_among nodes (b ∷ t) = if b == 110 then number_in 0 (nodes - 1) t else None

-- `n0` to `n7`
abbrev pub node_in : List ℕ → Option ℕ
node_in t = node_among 8 t
