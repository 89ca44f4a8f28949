use Rattle.server_phases.proofs.rests.put_rest.Goals as goal

pub returns-in-Importing : goal.returns-in-Importing
returns-in-Importing c = rw c.in-Importing.is c.put_taking_back.ensures

pub returns-in-Migrating : goal.returns-in-Migrating
returns-in-Migrating c = rw c.in-Migrating.is c.put_drain.ensures
