-- The rows of the program's tables as entries.
use Rattle.std.specs.Prelude.{ℕ, ◌≤◌, List, Option, length}
use Rattle.std.specs.List.{find}
use Rattle.std.specs.Str.{str_eq_ignore_ascii_case}
use Rattle.client_commands.specs.Rows.{row}
use Rattle.client_commands.specs.declared.table.CommandRow as client
use Rattle.command_list.specs.Entries.{Entry, told, page}
use Rattle.command_list.specs.Listing.{command}
use Rattle.command_list.specs.declared.listed.Listed as program

abbrev pub shown : program.Listed → Entry
shown r = told r.text.now r.arity r.flags.now r.keys (page r.group.now r.since.now r.summary.now)

-- a row of the commands of clients
abbrev pub of_command : client.CommandRow → Entry
of_command r = command (row r)

unfoldable pub first_named : List ℕ → List program.Listed → Option program.Listed
first_named word rows = find (λ r. str_eq_ignore_ascii_case word r.text.now) rows

-- each text is short enough for a reply
pub record IsShort (e : Entry) : Type 0 where
  pub text : length e.text ≤ 1000
  pub group : length e.page.group ≤ 1000
  pub since : length e.page.since ≤ 1000
  pub summary : length e.page.summary ≤ 1000
