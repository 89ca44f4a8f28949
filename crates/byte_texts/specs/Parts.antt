-- A text that is parted at each place where a byte stands.
use Rattle.std.specs.Prelude.{◌≡◌, ◌≢◌, ℕ, ◌+◌, Bool, true, false, cond, nat_eq, List, [], ◌∷◌, take, drop, position}
use Rattle.std.specs.Prelude.{Option, option_map}
use Rattle.std.specs.List.{All, join_with_byte, list_all, slice_split}

-- what stands between the bytes that part a text: one part at least
abbrev pub parts : (byte : ℕ) → List ℕ → List (List ℕ)
parts byte t = slice_split (λ b. nat_eq b byte) t

-- what stands before the first such byte, and what stands after it
abbrev pub split_once : (byte : ℕ) → List ℕ → Option (List ℕ × List ℕ)
split_once byte t = option_map (λ i. (take i t, drop (i + 1) t)) (position (λ b. nat_eq b byte) t)

-- the parts that are left, of which the first begins the rest
abbrev pub parts_left : (byte : ℕ) → (ended : Bool) → List ℕ → List (List ℕ)
parts_left byte ended rest = cond ended [] (parts byte rest)

-- words are parted by one space: at the ends of a text, and twice in a row, a space is one too many
abbrev pub is_word : List ℕ → Bool
is_word [] = false
is_word (b ∷ t) = true

abbrev pub are_words : List (List ℕ) → Bool
are_words ps = list_all is_word ps

-- no byte is left, nor one that parts two texts
abbrev pub is_nothing : List (List ℕ) → Bool
is_nothing [] = true
is_nothing ([] ∷ []) = true
is_nothing ([] ∷ (part ∷ more)) = false
is_nothing ((b ∷ t) ∷ more) = false

abbrev pub Lacks : (byte : ℕ) → ℕ → Type 0
Lacks byte b = b ≢ byte

-- no part has the byte, and the parts with the byte between them are the text
pub record TextsAreTheirParts : Type 0 where
  pub apart : (byte : ℕ) (t : List ℕ) → All (λ part. All (Lacks byte) part) (parts byte t)
  pub joined : (byte : ℕ) (t : List ℕ) → join_with_byte byte (parts byte t) ≡ t
