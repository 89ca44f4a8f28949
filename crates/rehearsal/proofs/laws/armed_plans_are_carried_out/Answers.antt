use Rattle.rehearsal.proofs.CarryingOut.{clients_keep_plans, steps_keep_plans, step_carries_out, run_carries_out}
use Rattle.rehearsal.proofs.CarryingOut.{clients_keep_done}
use Rattle.rehearsal.proofs.laws.armed_plans_are_carried_out.Goals as goal

pub returns-clause-clients : goal.returns-clause-clients
returns-clause-clients c = clients_keep_plans

pub returns-clause-steps : goal.returns-clause-steps
returns-clause-steps c = steps_keep_plans

pub returns-clause-step : goal.returns-clause-step
returns-clause-step c = step_carries_out

pub returns-clause-run : goal.returns-clause-run
returns-clause-run c = run_carries_out

pub returns-clause-done : goal.returns-clause-done
returns-clause-done c = clients_keep_done
