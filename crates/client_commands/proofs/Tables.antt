-- The program's table is the definition's.
use Rattle.std.proofs.Common.{◌≡◌, ◌∙◌, ℕ, Bool, true, false, cond, List, [], ◌∷◌, map, refl, ap}
use Rattle.std.proofs.Common.{Option, Some, None, option_map}
use Rattle.std.specs.Borrow.{Bor}
use Rattle.std.specs.List.{find}
use Rattle.std.specs.Str.{str_eq_ignore_ascii_case}
use Rattle.client_commands.specs.Names.{is_name}
use Rattle.client_commands.specs.Table.{Row, rows, row_of, text_of, text_or_none}
use Rattle.client_commands.specs.Rows.{row, first_named, first_of}
use Rattle.client_commands.specs.declared.name.CommandName.{CommandName}
use Rattle.client_commands.specs.declared.table.CommandRow as program

find_rows : (p : Row → Bool) (xs : List program.CommandRow)
    → option_map row (find (λ r. p (row r)) xs) ≡ find p (map row xs)
find_rows p [] = refl
find_rows p (x ∷ xs) = chosen (p (row x)) (find_rows p xs)
  where
    chosen : (b : Bool) → option_map row (find (λ r. p (row r)) xs) ≡ find p (map row xs)
        → option_map row (cond b (Some x) (find (λ r. p (row r)) xs)) ≡ cond b (Some (row x)) (find p (map row xs))
    chosen true rest = refl
    chosen false rest = rest

seen : (o : Option (Bor program.CommandRow))
    → option_map (λ r. row r.now) o ≡ option_map row (option_map (λ r. r.now) o)
seen None = refl
seen (Some r) = refl

pub in_table : (word : List ℕ) (xs : List program.CommandRow) (o : Option (Bor program.CommandRow)) → map row xs ≡ rows
    → option_map (λ r. r.now) o ≡ first_named word xs → option_map (λ r. row r.now) o ≡ row_of word
unfolding row_of first_named
in_table word xs o same is =
    seen o ∙ ap (option_map row) is ∙ find_rows (λ r. str_eq_ignore_ascii_case word r.text) xs
    ∙ ap (find (λ r. str_eq_ignore_ascii_case word r.text)) same

-- the row of a name
pub text_in_table : (name : CommandName) (xs : List program.CommandRow) (o : Option (Bor program.CommandRow))
    → map row xs ≡ rows → option_map (λ r. r.now) o ≡ first_of name xs
    → text_or_none (option_map (λ r. row r.now) o) ≡ text_of name
unfolding text_of first_of
text_in_table name xs o same is =
    let is_it : Row → Bool = λ r. is_name r.name name in
    ap text_or_none (seen o ∙ ap (option_map row) is ∙ find_rows is_it xs ∙ ap (find is_it) same)
