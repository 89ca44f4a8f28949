use Rattle.std.proofs.Common.{◌≡◌, length, option_map}
use Rattle.server_settling.specs.Clients.{clients_of_text, late_ids, lines_in}
use Rattle.server_settling.proofs.Reading.{goes_on}
use Rattle.server_settling.proofs.client_list.late_ids_in.Given as goal

-- what was found, and then what the lines that are left show
abbrev pub invariant-loop-line : goal.invariant-loop-line
invariant-loop-line l =
    option_map (late_ids l.host) (clients_of_text l.text)
    ≡ goes_on l.found.items (option_map (late_ids l.host) (lines_in l.lines))

abbrev pub decreases-loop-line : goal.decreases-loop-line
decreases-loop-line l = length l.lines
