use Rattle.server_phases.proofs.strangeness.StrangenessDisplay.fmt.Goals as goal

pub returns-in-TwoMigrate-clause-writes : goal.returns-in-TwoMigrate-clause-writes
returns-in-TwoMigrate-clause-writes g c = λ p o. rw c.in-TwoMigrate.is (c.write.ensures.writes p o)

pub returns-in-TwoImport-clause-writes : goal.returns-in-TwoImport-clause-writes
returns-in-TwoImport-clause-writes g c = λ p o. rw c.in-TwoImport.is (c.write-in-TwoImport.ensures.writes p o)

pub returns-in-TwoOwners-clause-writes : goal.returns-in-TwoOwners-clause-writes
returns-in-TwoOwners-clause-writes g c = λ p o. rw c.in-TwoOwners.is (c.write-in-TwoOwners.ensures.writes p o)

pub returns-in-WithoutSlots-clause-writes : goal.returns-in-WithoutSlots-clause-writes
returns-in-WithoutSlots-clause-writes g c = λ p o. rw c.in-WithoutSlots.is (c.write-in-WithoutSlots.ensures.writes p o)

pub returns-in-Crossed-clause-writes : goal.returns-in-Crossed-clause-writes
returns-in-Crossed-clause-writes g c = λ p o. rw c.in-Crossed.is (c.write-in-Crossed.ensures.writes p o)

pub returns-in-NotImported-clause-writes : goal.returns-in-NotImported-clause-writes
returns-in-NotImported-clause-writes g c = λ p o. rw c.in-NotImported.is (c.write-in-NotImported.ensures.writes p o)

pub returns-in-StrayMigrating-clause-writes : goal.returns-in-StrayMigrating-clause-writes
returns-in-StrayMigrating-clause-writes g c = λ p o. rw c.in-StrayMigrating.is (c.write-in-StrayMigrating.ensures.writes p o)

pub returns-in-OtherSource-clause-writes : goal.returns-in-OtherSource-clause-writes
returns-in-OtherSource-clause-writes g c = λ p o. rw c.in-OtherSource.is (c.write-in-OtherSource.ensures.writes p o)

pub returns-in-OwnerImports-clause-writes : goal.returns-in-OwnerImports-clause-writes
returns-in-OwnerImports-clause-writes g c = λ p o. rw c.in-OwnerImports.is (c.write-in-OwnerImports.ensures.writes p o)
