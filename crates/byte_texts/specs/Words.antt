-- A text and a word, byte by byte: whether it is that word, or begins so.
use Rattle.std.specs.Prelude.{ℕ, Bool, List, nat_eq}
use Rattle.std.specs.Cmp.Lexicographic.{pointwise}
use Rattle.std.specs.List.{starts_with}

abbrev pub is : (word text : List ℕ) → Bool
is word text = pointwise nat_eq text word

abbrev pub begins : (start text : List ℕ) → Bool
begins start text = starts_with nat_eq text start
