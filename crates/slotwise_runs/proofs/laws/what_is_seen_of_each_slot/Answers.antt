use Rattle.slotwise_runs.proofs.Cases.{beginnings_are_seen, driven_runs_are_seen, reordered_calls_are_seen}
use Rattle.slotwise_runs.proofs.laws.what_is_seen_of_each_slot.Goals as goal

pub returns-clause-driven : goal.returns-clause-driven
returns-clause-driven c = driven_runs_are_seen

pub returns-clause-reordered : goal.returns-clause-reordered
returns-clause-reordered c = reordered_calls_are_seen c.seen_calls_have_the_headline.ensures

pub returns-clause-beginnings : goal.returns-clause-beginnings
returns-clause-beginnings c = beginnings_are_seen
