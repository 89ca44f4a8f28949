use Rattle.cluster_world.proofs.laws.honesty_is_seen_event_by_event.Goals as goal
use Rattle.cluster_world.proofs.Earning.{asked_by_test, found_is_dishonest, honest_by_each}
use Rattle.cluster_world.proofs.Searching.{earned_by_test, searches_on}
use Rattle.cluster_world.proofs.Marking.{marks_are_told}

pub returns-clause-each : goal.returns-clause-each
returns-clause-each c = honest_by_each

pub returns-clause-found : goal.returns-clause-found
returns-clause-found c = found_is_dishonest

pub returns-clause-marks : goal.returns-clause-marks
returns-clause-marks c = marks_are_told

pub returns-clause-tests : goal.returns-clause-tests
returns-clause-tests c = asked_by_test

pub returns-clause-earned : goal.returns-clause-earned
returns-clause-earned c = earned_by_test

pub returns-clause-search : goal.returns-clause-search
returns-clause-search c = searches_on
