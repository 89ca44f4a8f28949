use Rattle.std.proofs.Common.{◌≡◌, ◌++◌, map, take}
use Rattle.std.specs.List.{flat_map}
use Rattle.client_commands.specs.Table.{rows}
use Rattle.command_list.specs.Listing.{command}
use Rattle.command_list.specs.Replies.{page_of}
use Rattle.command_list.specs.Shown.{shown}
use Rattle.command_list.proofs.docs.all_pages.Given as goal

abbrev pub invariant-loop-row : goal.invariant-loop-row
invariant-loop-row l =
    l.pages.items ≡ flat_map page_of (map command rows) ++ flat_map (λ r. page_of (shown r)) (take l.row-index l.rows)
