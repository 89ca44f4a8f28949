-- The owners of all slots, read off the starts of their ranges.
use Rattle.std.specs.Prelude.{◌≡◌, ℕ, ◌-◌, ◌<◌, List}
use Rattle.std.specs.Prelude.{[], ◌∷◌, ◌++◌, length, replicate, slice_index, slice_index_or}
use Rattle.key_slots.specs.Starts.{next_first}
use Rattle.reshard_planner.specs.Holding.{slots_of}

-- from the slot `from` up to `end` the ranges that begin so have these owners
abbrev pub Spans : (from end : ℕ) → List (ℕ × ℕ) → List ℕ → Type 0
Spans from end [] owners = (from ≡ end) × (owners ≡ [])
Spans from end (start ∷ starts) owners =
    (rest : List ℕ) × (start.0 ≡ from) × (from < next_first end starts)
    × (owners ≡ replicate (next_first end starts - from) start.1 ++ rest)
    × Spans (next_first end starts) end starts rest

-- the slots from `from` up to `end` are the owner's, and these are the owners of the slots from there on
pub record IsAhead (starts : List (ℕ × ℕ)) (owners : List ℕ) (from end owner : ℕ) : Type 0 where
  pub rest : List ℕ
  pub order : from < end
  pub are : owners ≡ replicate (end - from) owner ++ rest
  pub spans : Spans end 16384 starts rest

-- an array of one number for each node holds what the function gives for each of the first n
abbrev pub Lists : (of : ℕ → ℕ) → (n : ℕ) → List ℕ → Type 0
Lists of n xs = (node : ℕ) → node < n → slice_index xs node ≡ of node

-- the slots of each of so many nodes, ascending
pub record AreSlotsOf (nodes : ℕ) (owners : List ℕ) (lists : List (List ℕ)) : Type 0 where
  pub count : length lists ≡ nodes
  pub are : (node : ℕ) → node < nodes → slice_index_or lists node [] ≡ slots_of owners node
