use Rattle.cluster_runs.proofs.targets.check_line.Goals as goal

pub returns-in-Move-clause-empty : goal.returns-in-Move-clause-empty
returns-in-Move-clause-empty g c = rw c.in-Move.is c.check_slots.ensures.empty
