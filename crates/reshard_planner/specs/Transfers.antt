-- Which slots go from which node to which.
use Rattle.std.specs.Prelude.{ℕ, zero, suc, List, [], ◌∷◌, ◌++◌, map, take, replicate}
use Rattle.reshard_planner.specs.declared.transfer.Transfer.{Transfer}
use Rattle.reshard_planner.specs.Holding.{slots_of}

-- each of n nodes, ascending, gives so many of its slots, the lowest ones: the slots, each with its node
abbrev pub slots_given : List ℕ → (gives : ℕ → ℕ) → (n : ℕ) → List (ℕ × ℕ)
slots_given owners gives zero = []
slots_given owners gives (suc n) = slots_given owners gives n ++ map (λ s. (s, n)) (take (gives n) (slots_of owners n))

-- each of n nodes, ascending, is listed as many times as it takes slots
abbrev pub nodes_taking : (takes : ℕ → ℕ) → (n : ℕ) → List ℕ
nodes_taking takes zero = []
nodes_taking takes (suc n) = nodes_taking takes n ++ replicate (takes n) n

-- both lists in order
abbrev pub transfers_between : List (ℕ × ℕ) → List ℕ → List Transfer
transfers_between [] targets = []
transfers_between (slot ∷ slots) [] = []
transfers_between (slot ∷ slots) (target ∷ targets) =
    record { slot = slot.0; source = slot.1; target = target } ∷ transfers_between slots targets

abbrev pub transfers : List ℕ → (gives takes : ℕ → ℕ) → (n : ℕ) → List Transfer
transfers owners gives takes n = transfers_between (slots_given owners gives n) (nodes_taking takes n)
