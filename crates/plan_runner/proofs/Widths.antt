-- Sets of nodes that are filled up to the most nodes that there can be.
use Rattle.std.proofs.Common.{◌≡◌, ℕ, ◌+◌, ◌-◌, ◌<◌, ◌≤◌, Bool, true, false, List, ◌++◌, length, ap, ◌∙◌, arith, get_or, set}
use Rattle.std.proofs.lemmas.List.{get_or_append_left, length-replicate, replicate-append-replicate, set-append_left}
use Rattle.std.specs.Prelude.{replicate}
use Rattle.plan_runner.specs.SlotStates.{none_told}

pub so_long : (n : ℕ) → length (replicate n false) ≡ n
so_long n = length-replicate n false

pub filled_up : (n : ℕ) → n ≤ 255 → replicate n false ++ replicate (255 - n) false ≡ none_told
filled_up n h = replicate-append-replicate n (255 - n) false ∙ ap (λ k. replicate k false) whole
  where
    whole : n + (255 - n) ≡ 255
    whole = omega arith

pub filled_has : (xs ys : List Bool) (m : ℕ) → m < length xs → get_or (xs ++ ys) m false ≡ get_or xs m false
filled_has xs ys m h = get_or_append_left xs ys false m h

pub filled_with : (xs ys : List Bool) (m : ℕ) → m < length xs → set (xs ++ ys) m true ≡ set xs m true ++ ys
filled_with xs ys m h = set-append_left xs ys m true h
