use Rattle.cluster_world.proofs.Chained.{sends_are_runs, events_tell_sends}
use Rattle.cluster_world.proofs.sends.sends_over_worlds_are_runs.Goals as goal

pub returns-clause-runs : goal.returns-clause-runs
returns-clause-runs c = sends_are_runs

pub returns-clause-told : goal.returns-clause-told
returns-clause-told c = events_tell_sends
