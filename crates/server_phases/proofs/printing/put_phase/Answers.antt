use Rattle.server_phases.proofs.printing.put_phase.Goals as goal

pub returns-in-Told : goal.returns-in-Told
returns-in-Told g c = rw c.in-Told.is c.put_counted-in-Told.ensures
