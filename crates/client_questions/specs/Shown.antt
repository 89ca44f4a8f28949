-- A row of the program's table of kinds as a row of the definition's.
use Rattle.std.specs.Prelude.{ℕ, List, Option}
use Rattle.std.specs.List.{find}
use Rattle.std.specs.Str.{str_eq_ignore_ascii_case}
use Rattle.client_questions.specs.Kinds as kinds
use Rattle.client_questions.specs.declared.kind.KindRow as program

abbrev pub row : program.KindRow → kinds.KindRow
row r = record { text = r.text.now; kind = r.kind }

unfoldable pub first_named : List ℕ → List program.KindRow → Option program.KindRow
first_named word rows = find (λ r. str_eq_ignore_ascii_case word r.text.now) rows
