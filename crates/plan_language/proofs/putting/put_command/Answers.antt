use Rattle.plan_language.proofs.putting.put_command.Goals as goal

pub returns-in-Importing : goal.returns-in-Importing
returns-in-Importing c = rw c.in-Importing.is c.put_set.ensures

pub returns-in-Migrating : goal.returns-in-Migrating
returns-in-Migrating c = rw c.in-Migrating.is c.put_set-in-Migrating.ensures

pub returns-in-Stable : goal.returns-in-Stable
returns-in-Stable c = rw c.in-Stable.is c.put_slot.ensures
