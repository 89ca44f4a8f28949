-- The hash tag of a key (Redis Cluster specification, "Hash tags").
use Rattle.std.specs.Prelude.{◌≡◌, ◌≢◌, ℕ, ◌+◌, ◌++◌, cond, List, [], ◌∷◌, drop, nat_eq, Option, None, Some, take}
use Rattle.std.specs.Prelude.{position}
use Rattle.std.specs.List.{All}

-- where a byte stands first
abbrev pub place : ℕ → List ℕ → Option ℕ
place byte text = position (λ b. nat_eq b byte) text

-- the bytes before the first `}` of what stands after the first `{`, if there are any, and else the whole key
abbrev pub tag_inside : List ℕ → List ℕ → Option ℕ → List ℕ
tag_inside key rest None = key
tag_inside key rest (Some n) = cond (nat_eq n 0) key (take n rest)

abbrev pub tag_at : List ℕ → Option ℕ → List ℕ
tag_at key None = key
tag_at key (Some i) = tag_inside key (drop (i + 1) key) (place 125 (drop (i + 1) key))

-- the bytes that are hashed
abbrev pub tag : List ℕ → List ℕ
tag key = tag_at key (place 123 key)

-- the byte stands nowhere in the text
abbrev pub Lacks : List ℕ → ℕ → Type 0
Lacks text byte = All (λ b. b ≢ byte) text

-- the standard's rule, case by case: a key with `{`, a `}` after its first `{`, and something between the two
-- hashes that alone; a key without `{`, without `}` after its first `{`, or with nothing between hashes whole
pub record TagsAreBetweenBraces : Type 0 where
  pub inside : (before inner after : List ℕ) → Lacks before 123 → Lacks inner 125 → inner ≢ []
      → tag (before ++ 123 ∷ (inner ++ 125 ∷ after)) ≡ inner
  pub no_open : (key : List ℕ) → Lacks key 123 → tag key ≡ key
  pub no_close : (before rest : List ℕ) → Lacks before 123 → Lacks rest 125
      → tag (before ++ 123 ∷ rest) ≡ before ++ 123 ∷ rest
  pub nothing : (before after : List ℕ) → Lacks before 123
      → tag (before ++ 123 ∷ (125 ∷ after)) ≡ before ++ 123 ∷ (125 ∷ after)
