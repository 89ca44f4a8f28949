use Rattle.std.proofs.Common.{◌≡◌, take}
use Rattle.std.specs.List.{flat_map}
use Rattle.command_list.specs.Replies.{page_of}
use Rattle.command_list.specs.Shown.{of_command}
use Rattle.command_list.proofs.docs.client_pages.Given as goal

abbrev pub invariant-loop-row : goal.invariant-loop-row
invariant-loop-row l = l.pages.items ≡ flat_map (λ r. page_of (of_command r)) (take l.row-index l.rows)
