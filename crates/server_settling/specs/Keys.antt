-- The keys of a slot at two nodes.
use Rattle.std.specs.Prelude.{ℕ, Bool, nat_eq, not, List, filter}
use Rattle.std.specs.Cmp.Lexicographic.{pointwise}
use Rattle.std.specs.List.{list_any}

-- whether one of the keys is this one
abbrev pub has : List (List ℕ) → List ℕ → Bool
has keys key = list_any (pointwise nat_eq key) keys

-- those of the one that the other has too
abbrev pub at_both : (keys others : List (List ℕ)) → List (List ℕ)
at_both keys others = filter (λ k. has others k) keys

-- those of the one that the other lacks
abbrev pub at_one_alone : (keys others : List (List ℕ)) → List (List ℕ)
at_one_alone keys others = filter (λ k. not (has others k)) keys
