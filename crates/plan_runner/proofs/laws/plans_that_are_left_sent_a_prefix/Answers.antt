use Rattle.plan_runner.proofs.LeftAnywhere.{left_is_prefix, listed_is_prefix, running_is_spelled, comes_on}
use Rattle.plan_runner.proofs.laws.plans_that_are_left_sent_a_prefix.Goals as goal

pub returns-clause-left : goal.returns-clause-left
returns-clause-left c = left_is_prefix

pub returns-clause-listed : goal.returns-clause-listed
returns-clause-listed c = listed_is_prefix

pub returns-clause-running : goal.returns-clause-running
returns-clause-running c = running_is_spelled

pub returns-clause-then : goal.returns-clause-then
returns-clause-then c = comes_on
