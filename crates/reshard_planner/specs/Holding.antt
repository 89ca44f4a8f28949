-- Which slots each node holds, and in how many slots two tables of owners differ.
use Rattle.std.specs.Prelude.{ℕ, suc, ◌+◌, cond, ◌==◌, List, [], ◌∷◌}

-- the slots of the node, ascending, where the first owner is that of the slot `from`
abbrev pub slots_from : (from : ℕ) → List ℕ → (node : ℕ) → List ℕ
slots_from from [] node = []
slots_from from (owner ∷ owners) node =
    cond (owner == node) (from ∷ slots_from (suc from) owners node) (slots_from (suc from) owners node)

abbrev pub slots_of : List ℕ → (node : ℕ) → List ℕ
slots_of owners node = slots_from 0 owners node

-- how many slots the node holds
abbrev pub held : List ℕ → (node : ℕ) → ℕ
held [] node = 0
held (owner ∷ owners) node = cond (owner == node) 1 0 + held owners node

-- in how many slots the two tables have different owners
abbrev pub differing : List ℕ → List ℕ → ℕ
differing [] others = 0
differing (owner ∷ owners) [] = 0
differing (owner ∷ owners) (other ∷ others) = cond (owner == other) 0 1 + differing owners others
