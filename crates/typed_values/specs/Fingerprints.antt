-- The fingerprints of texts: a text with the fingerprint of none of a list is none of these. Any function of the text
-- with values below 256 would do: whether a list has a text does not depend on it. This one is told exactly because
-- the program computes it, and its mixing is chosen so that few texts share a fingerprint.
use Rattle.std.specs.Prelude.{◌≡◌, ℕ, ◌+◌, ◌-◌, ◌*◌, ◌/◌, ◌%◌, ◌^◌, ◌<◌, Bool, false, List, [], ◌∷◌, length, take}
use Rattle.std.specs.Prelude.{nat_eq, nat_lt, slice_index, slice_index_or, if◌then◌else◌}
use Rattle.std.specs.Int.{from_le_bytes, w64}
use Rattle.std.specs.List.{list_any}

-- both numbers in one of 64 bits
unfoldable pub mixed : ℕ → ℕ → ℕ
mixed h n = (h + n) % 2 ^ 64 * 0x9e37_79b9_7f4a_7c15 % 2 ^ 64

-- the number h with each of these in it
abbrev pub mixed_each : ℕ → List ℕ → ℕ
mixed_each h [] = h
mixed_each h (n ∷ ns) = mixed_each (mixed h n) ns

-- the eight bytes from place i on, as one number
unfoldable pub word_at : List ℕ → ℕ → ℕ
word_at t i =
    from_le_bytes w64 (slice_index t i ∷ slice_index t (i + 1) ∷ slice_index t (i + 2) ∷ slice_index t (i + 3)
    ∷ slice_index t (i + 4) ∷ slice_index t (i + 5) ∷ slice_index t (i + 6) ∷ slice_index t (i + 7) ∷ [])

-- the first four bytes and the last four, as one number
unfoldable pub ends_of : List ℕ → ℕ
ends_of t =
    from_le_bytes w64 (slice_index t 0 ∷ slice_index t 1 ∷ slice_index t 2 ∷ slice_index t 3
    ∷ slice_index t (length t - 4) ∷ slice_index t (length t - 4 + 1) ∷ slice_index t (length t - 4 + 2)
    ∷ slice_index t (length t - 4 + 3) ∷ [])

-- the first eight bytes, the eight in the middle and the last eight
abbrev pub three_words : List ℕ → List ℕ
three_words t = word_at t 0 ∷ word_at t ((length t - 8) / 2) ∷ word_at t (length t - 8) ∷ []

-- the number n with the text in it, of which all bytes count where there are 24 at most
unfoldable pub hash_of : ℕ → List ℕ → ℕ
hash_of n t =
    mixed_each n (if nat_lt (length t) 4
    then t
    else (if nat_lt (length t) 8
    then ends_of t ∷ []
    else three_words t))

-- a number below 256 by the length and the text, of one of more than 64 bytes by the first 24
unfoldable pub fingerprint : List ℕ → ℕ
fingerprint t = hash_of (length t) (if nat_lt 64 (length t) then take 24 t else t) / 2 ^ 56

-- whether one of the texts has this fingerprint
abbrev pub has_fingerprint : List (List ℕ) → ℕ → Bool
has_fingerprint ts n = list_any (λ t. nat_eq (fingerprint t) n) ts

-- for each fingerprint whether one of the texts has it
abbrev pub AreFingerprints : List (List ℕ) → List Bool → Type 0
AreFingerprints ts es = (length es ≡ 256) × ((n : ℕ) → n < 256 → slice_index_or es n false ≡ has_fingerprint ts n)
