-- How CLUSTER NODES names nodes.
use Rattle.std.specs.Prelude.{ℕ, Bool, cond, ◌&&◌, ◌||◌, ◌==◌, nat_lt, nat_le, List, [], ◌∷◌, length, take}
use Rattle.std.specs.Prelude.{drop}
use Rattle.std.specs.Prelude.{Option, None, Some}
use Rattle.std.specs.List.{list_all}
use Rattle.byte_texts.specs.Words.{is}

abbrev pub if_there : {A B : Type 0} → Option A → (A → Option B) → Option B
if_there None f = None
if_there (Some a) f = f a

-- a digit, or a letter a to f
abbrev pub is_hex : ℕ → Bool
is_hex b = (nat_le 48 b && nat_lt b 58) || (nat_le 97 b && nat_lt b 103)

-- a node's ID: 40 hexadecimal digits
abbrev pub is_name : List ℕ → Bool
is_name t = length t == 40 && list_all is_hex t

abbrev pub name_in : List ℕ → Option (List ℕ)
name_in t = cond (is_name t) (Some t) None

-- the ID that ends a mark, before its `]`
abbrev pub closed_name_in : List ℕ → Option (List ℕ)
closed_name_in t = cond (length t == 41 && is (93 ∷ []) (drop 40 t)) (name_in (take 40 t)) None
