use Rattle.std.proofs.Common.{None, Some, cond, ap, ◌∙◌, arith}
use Rattle.std.specs.Prelude.{slice_index_or}
use Rattle.std.specs.Option.{option_or}
use Rattle.cluster_views.proofs.Ranges.{same_range}
use Rattle.cluster_views.proofs.owners.put_range.Goals as goal

pub returns : goal.returns
returns c s lt =
    c.loop-slot.invariant.put s lt
    ∙ ap (λ b. option_or (slice_index_or c.args.row.now s None) (cond b (Some c.args.owner) None))
    (same_range c.args.first c.args.last c.loop-slot.slot s (omega arith) (omega arith) (omega arith))
