use Rattle.slotwise_runs.proofs.Headline.{in_any_order_of_slots}
use Rattle.slotwise_runs.proofs.Runs.{trail_headline_by_slots, world_headline_by_slots}
use Rattle.slotwise_runs.proofs.laws.headline_in_any_order_of_slots.Goals as goal

pub returns-clause-servers : goal.returns-clause-servers
returns-clause-servers c = in_any_order_of_slots

pub returns-clause-worlds : goal.returns-clause-worlds
returns-clause-worlds c = world_headline_by_slots

pub returns-clause-threads : goal.returns-clause-threads
returns-clause-threads c = trail_headline_by_slots
