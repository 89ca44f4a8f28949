use Rattle.std.proofs.Common.{◌≡◌, map, take}
use Rattle.command_list.specs.Replies.{entry}
use Rattle.command_list.specs.Shown.{of_command}
use Rattle.command_list.proofs.entries.client_entries.Given as goal

abbrev pub invariant-loop-row : goal.invariant-loop-row
invariant-loop-row l = l.entries.items ≡ map (λ r. entry (of_command r)) (take l.row-index l.rows)
