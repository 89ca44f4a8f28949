use Rattle.plan_language.proofs.printing.PlanCommandDisplay.fmt.Goals as goal

pub returns-in-Importing-clause-writes : goal.returns-in-Importing-clause-writes
returns-in-Importing-clause-writes g c = λ p o. rw c.in-Importing.is (c.write.ensures.writes p o)

pub returns-in-Migrating-clause-writes : goal.returns-in-Migrating-clause-writes
returns-in-Migrating-clause-writes g c = λ p o. rw c.in-Migrating.is (c.write-in-Migrating.ensures.writes p o)

pub returns-in-SetNode-clause-writes : goal.returns-in-SetNode-clause-writes
returns-in-SetNode-clause-writes g c = λ p o. rw c.in-SetNode.is (c.write-in-SetNode.ensures.writes p o)
