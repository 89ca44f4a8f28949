use Rattle.plan_machine.proofs.Ending.{runs_quietly, clean_is_unmarked}
use Rattle.plan_machine.proofs.laws.plans_run_over_worlds_take_their_cost.Goals as goal

pub returns-clause-arms : goal.returns-clause-arms
returns-clause-arms c = clean_is_unmarked

pub returns-clause-runs : goal.returns-clause-runs
returns-clause-runs c = runs_quietly
