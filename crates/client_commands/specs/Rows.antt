-- A row of the program's table as a row of the definition's.
use Rattle.std.specs.Prelude.{ℕ, List, Option}
use Rattle.std.specs.List.{find}
use Rattle.std.specs.Str.{str_eq_ignore_ascii_case}
use Rattle.client_commands.specs.Names.{is_name}
use Rattle.client_commands.specs.Table.{Row}
use Rattle.client_commands.specs.declared.name.CommandName.{CommandName}
use Rattle.client_commands.specs.declared.table.CommandRow as program

abbrev pub row : program.CommandRow → Row
row r =
    record {
      text = r.text.now;
      arity = r.arity;
      name = r.name;
      keys = r.keys;
      flags = r.flags.now;
      group = r.group.now;
      since = r.since.now;
      summary = r.summary.now;
    }

unfoldable pub first_named : List ℕ → List program.CommandRow → Option program.CommandRow
first_named word rows = find (λ r. str_eq_ignore_ascii_case word r.text.now) rows

unfoldable pub first_of : CommandName → List program.CommandRow → Option program.CommandRow
first_of name rows = find (λ r. is_name r.name name) rows
