-- The names of commands are short.
use Rattle.std.proofs.Common.{◌≡◌, ℕ, ◌≤◌, Bool, true, false, cond, List, [], ◌∷◌, length, map, Option, Some, None, Err, nat_le, refl, sym, ap, ◌∙◌, arith}
use Rattle.std.proofs.lemmas.Bool.{leb-true}
use Rattle.std.proofs.lemmas.List.{length-map}
use Rattle.std.specs.Char.{to_ascii_lowercase}
use Rattle.std.specs.List.{find}
use Rattle.std.specs.Str.{str_eq_ignore_ascii_case}
use Rattle.typed_values.proofs.Spellings.{same-true}
use Rattle.client_commands.specs.Table.{Row, rows, row_of, text_of, text_or_none}
use Rattle.client_commands.specs.Commands.{Words, command_of, in_row}
use Rattle.client_commands.specs.Names.{is_name}
use Rattle.client_commands.specs.declared.name.CommandName.{CommandName}
use Rattle.client_commands.specs.declared.fault.CommandFault.TheVariants.{ArgumentCount}

abbrev AreShort : List Row → Type 0
AreShort [] = Unit {0}
AreShort (r ∷ rs) = (nat_le (length r.text) 1024 ≡ true) × AreShort rs

rows_short : AreShort rows
unfolding rows
rows_short = (refl, (refl, (refl, (refl, (refl, (refl, (refl, (refl, (refl, (refl, (refl, (refl, (refl, (refl, (refl, (refl, (refl, (refl, (refl, (refl, (refl, (refl, (refl, (refl, (refl, (refl, (refl, (refl, (refl, (refl, (refl, (refl, (refl, tt)))))))))))))))))))))))))))))))))

same_length : (word text : List ℕ) → str_eq_ignore_ascii_case word text ≡ true → length word ≡ length text
same_length word text e =
    sym (length-map word to_ascii_lowercase) ∙ ap length (same-true (map to_ascii_lowercase word) (map to_ascii_lowercase text) e) ∙ length-map text to_ascii_lowercase

short_row : (word : List ℕ) (xs : List Row) (r : Row) → AreShort xs → find (λ x. str_eq_ignore_ascii_case word x.text) xs ≡ Some r → length word ≤ 1024
short_row word [] r h e = absurd cc
short_row word (x ∷ xs) r h e = chosen (str_eq_ignore_ascii_case word x.text) (short_row word xs r h.1) refl e
  where
    chosen : (b : Bool) → (find (λ y. str_eq_ignore_ascii_case word y.text) xs ≡ Some r → length word ≤ 1024) → str_eq_ignore_ascii_case word x.text ≡ b → cond b (Some x) (find (λ y. str_eq_ignore_ascii_case word y.text) xs) ≡ Some r → length word ≤ 1024
    chosen true rest is f = omega (arith, same_length word x.text is, leb-true (length x.text) 1024 h.0)
    chosen false rest is f = rest f

found : (o : Option Row) (ws : Words) → in_row o ws ≡ Err ArgumentCount → (r : Row) × (o ≡ Some r)
found None ws e = absurd cc
found (Some r) ws e = (r, refl)

-- a request that is refused for its number of arguments has a command's name
pub short_name : (word : List ℕ) (ws : Words) → command_of (word ∷ ws) ≡ Err ArgumentCount → length (map to_ascii_lowercase word) ≤ 1024
unfolding row_of
short_name word ws e =
    let r = found (row_of word) ws e in
    let short : length word ≤ 1024 = short_row word rows r.0 rows_short r.1 in
    omega (arith, short, length-map word to_ascii_lowercase)

-- ---- what a row has for a name

first_short : (p : Row → Bool) (xs : List Row) → AreShort xs → length (text_or_none (find p xs)) ≤ 1024
first_short p [] h = omega arith
first_short p (x ∷ xs) h = chosen (p x) (first_short p xs h.1)
  where
    chosen : (b : Bool) → length (text_or_none (find p xs)) ≤ 1024
        → length (text_or_none (cond b (Some x) (find p xs))) ≤ 1024
    chosen true rest = leb-true (length x.text) 1024 h.0
    chosen false rest = rest

pub text_short : (name : CommandName) → length (text_of name) ≤ 1024
unfolding text_of
text_short name = first_short (λ r. is_name r.name name) rows rows_short
