use Rattle.cluster_survey.proofs.cluster_fault.ClusterFaultDisplay.fmt.Goals as goal

pub returns-in-MissingNode-clause-writes : goal.returns-in-MissingNode-clause-writes
returns-in-MissingNode-clause-writes g c = λ p o. rw c.in-MissingNode.is (c.write-in-MissingNode.ensures.writes p o)

pub returns-in-NoMaster-clause-writes : goal.returns-in-NoMaster-clause-writes
returns-in-NoMaster-clause-writes g c = λ p o. rw c.in-NoMaster.is (c.write-in-NoMaster.ensures.writes p o)

pub returns-in-BeyondMasters-clause-writes : goal.returns-in-BeyondMasters-clause-writes
returns-in-BeyondMasters-clause-writes g c = λ p o. rw c.in-BeyondMasters.is (c.write-in-BeyondMasters.ensures.writes p o)
