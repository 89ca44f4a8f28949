use Rattle.plan_runner.specs.Advancing.{end_of, last_seat}
use Rattle.plan_machine.proofs.Ending.{runs_quietly}
use Rattle.plan_machine.proofs.over_world.run_over_world.Goals as goal

pub returns-clause-quiet : goal.returns-clause-quiet
returns-clause-quiet c = runs_quietly c.args.world.now c.run.new.port c.args.plan.progress c.args.plan.seat (last_seat c.run.result) (end_of c.run.result) c.run.ensures.runs
