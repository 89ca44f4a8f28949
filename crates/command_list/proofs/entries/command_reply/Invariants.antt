use Rattle.std.proofs.Common.{◌≡◌, ◌++◌, map, take}
use Rattle.client_commands.specs.Table.{rows}
use Rattle.command_list.specs.Listing.{command}
use Rattle.command_list.specs.Replies.{entry}
use Rattle.command_list.specs.Shown.{shown}
use Rattle.command_list.proofs.entries.command_reply.Given as goal

abbrev pub invariant-loop-row : goal.invariant-loop-row
invariant-loop-row l =
    l.entries.items ≡ map entry (map command rows) ++ map (λ r. entry (shown r)) (take l.row-index l.rows)
