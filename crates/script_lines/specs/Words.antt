-- The words of a script's line, and what they stand for.
use Rattle.std.specs.Prelude.{ℕ, ◌+◌, ◌-◌, ◌*◌, Bool, false, cond, ◌&&◌, nat_le, nat_eq, List, [], ◌∷◌, length, Option}
use Rattle.std.specs.Prelude.{None, Some, codes, Result, Ok, Err}
use Rattle.byte_texts.specs.Parts.{are_words, parts}
use Rattle.plan_language.specs.Texts.{is_text}
use Rattle.script_lines.specs.declared.fault.ScriptFault.{ScriptFault}
use Rattle.script_lines.specs.declared.fault.ScriptFault.TheVariants.{Verb, Word}
use Rattle.script_lines.specs.Faults.{after}

-- ---- words are separated by one space, so none is empty

abbrev pub words : List ℕ → Result (List (List ℕ)) ScriptFault
words t = cond (are_words (parts 32 t)) (Ok (parts 32 t)) (Err Verb)

-- ---- a word stands for a text: `""` for the empty one, and `\xHH` for one byte

-- a lower case hexadecimal digit
abbrev pub hex_digit : ℕ → Option ℕ
hex_digit b =
    cond (nat_le 48 b && nat_le b 57) (Some (b - 48)) (cond (nat_le 97 b && nat_le b 102) (Some (b - 97 + 10)) None)

abbrev pub both_digits : Option ℕ → Option ℕ → Option ℕ
both_digits None l = None
both_digits (Some h) None = None
both_digits (Some h) (Some l) = Some (h * 16 + l)

abbrev pub hex_byte : ℕ → ℕ → Option ℕ
hex_byte h l = both_digits (hex_digit h) (hex_digit l)

-- the byte, if there is one, before what the rest of the word stands for
abbrev pub with_byte : Option ℕ → Result (List ℕ) ScriptFault → Result (List ℕ) ScriptFault
with_byte None r = Err Word
with_byte (Some b) r = after r (λ t. Ok (b ∷ t))

abbrev mutual
  pub unescape : List ℕ → Result (List ℕ) ScriptFault
  unescape [] = Ok []
  unescape (b ∷ t) = cond (nat_eq b 92) (escape t) (with_byte (Some b) (unescape t))

  -- after a backslash
  pub escape : List ℕ → Result (List ℕ) ScriptFault
  escape [] = Err Word
  escape (x ∷ []) = Err Word
  escape (x ∷ h ∷ []) = Err Word
  escape (x ∷ h ∷ l ∷ t) = cond (nat_eq x 120) (with_byte (hex_byte h l) (unescape t)) (Err Word)

-- at most 1 MiB
abbrev pub within_limit : List ℕ → Result (List ℕ) ScriptFault
within_limit t = cond (nat_le (length t) 1048576) (Ok t) (Err Word)

abbrev pub text : List ℕ → Result (List ℕ) ScriptFault
text w = cond (is_text (codes "\"\"") w) (Ok []) (after (unescape w) within_limit)

-- ---- what a text may be

abbrev pub is_verb_text : List ℕ → Result (List ℕ) ScriptFault → Bool
is_verb_text verb (Ok t) = is_text verb t
is_verb_text verb (Err e) = false

-- the word stands for the verb
abbrev pub stands_for : List ℕ → List ℕ → Bool
stands_for verb w = is_verb_text verb (text w)
