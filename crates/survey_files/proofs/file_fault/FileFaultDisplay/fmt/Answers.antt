use Rattle.survey_files.proofs.file_fault.FileFaultDisplay.fmt.Goals as goal

pub returns-in-MissingNode-clause-writes : goal.returns-in-MissingNode-clause-writes
returns-in-MissingNode-clause-writes g c = λ p o. rw c.in-MissingNode.is (c.write-in-MissingNode.ensures.writes p o)

pub returns-in-BeyondMasters-clause-writes : goal.returns-in-BeyondMasters-clause-writes
returns-in-BeyondMasters-clause-writes g c = λ p o. rw c.in-BeyondMasters.is (c.write-in-BeyondMasters.ensures.writes p o)

pub returns-in-Nobody-clause-writes : goal.returns-in-Nobody-clause-writes
returns-in-Nobody-clause-writes g c = λ p o. rw c.in-Nobody.is (c.write-in-Nobody.ensures.writes p o)
