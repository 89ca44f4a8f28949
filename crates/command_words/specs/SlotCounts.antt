-- How many slots a word says.
use Rattle.std.specs.Prelude.{◌≤◌, ◌==◌, ◌&&◌, ℕ, nat_lt, cond, List, [], ◌∷◌, length, Option, Some, codes, option_map}
use Rattle.std.specs.Str.{bytes_eq}
use Rattle.byte_texts.specs.Decimals.{number_in}
use Rattle.command_words.specs.declared.usage.SlotCount.{SlotCount}
use Rattle.command_words.specs.declared.usage.SlotCount.TheVariants.{Exactly, AllOwned}

-- without a plus sign before it (43)
abbrev pub without_plus : List ℕ → List ℕ
without_plus [] = []
without_plus (c ∷ word) = cond (c == 43) word (c ∷ word)

-- without the zeros (48) before another digit
abbrev pub without_zeros : List ℕ → List ℕ
without_zeros [] = []
without_zeros (d ∷ digits) = cond ((d == 48) && nat_lt 0 (length digits)) (without_zeros digits) (d ∷ digits)

-- a number of slots that there may be, as Rust reads one, or `all`
abbrev pub slot_count : List ℕ → Option SlotCount
slot_count word = cond (bytes_eq word (codes "all")) (Some AllOwned)
    (option_map Exactly (number_in 0 16384 (without_zeros (without_plus word))))

abbrev pub IsSlotCount : SlotCount → Type 0
IsSlotCount (Exactly n) = n ≤ 16384
IsSlotCount AllOwned = Unit {0}
