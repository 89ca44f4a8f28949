use Rattle.cluster_views.proofs.fault.SurveyFaultDisplay.fmt.Goals as goal

pub returns-in-Unaware-clause-writes : goal.returns-in-Unaware-clause-writes
returns-in-Unaware-clause-writes g c = λ p o. rw c.in-Unaware.is (c.write-in-Unaware.ensures.writes p o)

pub returns-in-Disagreement-clause-writes : goal.returns-in-Disagreement-clause-writes
returns-in-Disagreement-clause-writes g c = λ p o. rw c.in-Disagreement.is (c.write-in-Disagreement.ensures.writes p o)

pub returns-in-OtherEpoch-clause-writes : goal.returns-in-OtherEpoch-clause-writes
returns-in-OtherEpoch-clause-writes g c = λ p o. rw c.in-OtherEpoch.is (c.put_other_epoch.ensures p o)

pub returns-in-SameEpoch-clause-writes : goal.returns-in-SameEpoch-clause-writes
returns-in-SameEpoch-clause-writes g c = λ p o. rw c.in-SameEpoch.is (c.put_same_epoch.ensures p o)
