use Rattle.server_phases.proofs.Moved.{line_fault, match_each}
use Rattle.server_phases.proofs.resuming.put_line.Goals as goal

pub returns-else-is_beyond-clause-adds : goal.returns-else-is_beyond-clause-adds
returns-else-is_beyond-clause-adds c =
    rw c.in-Move.is (match_each c.put_runs.result _ _ _ _ c.put_runs.ensures.adds (λ x h. h)
    (λ e h phases shows. line_fault c.args.plan.now _ e _ _ (h phases shows)))
