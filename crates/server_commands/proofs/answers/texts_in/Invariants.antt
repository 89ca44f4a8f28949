use Rattle.std.proofs.Common.{◌≡◌, length}
use Rattle.resp2_wire.specs.View.{trees}
use Rattle.server_commands.specs.Answers.{texts_of}
use Rattle.server_commands.proofs.Listing.{goes_on}
use Rattle.server_commands.proofs.answers.texts_in.Given as goal

-- what was found, and then the texts that are left
abbrev pub invariant-loop-rest : goal.invariant-loop-rest
invariant-loop-rest l = texts_of (trees l.replies) ≡ goes_on l.found.items (texts_of (trees l.rest))

abbrev pub decreases-loop-rest : goal.decreases-loop-rest
decreases-loop-rest l = length l.rest
