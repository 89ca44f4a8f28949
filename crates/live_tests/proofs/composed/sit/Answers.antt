use Rattle.plan_semantics.specs.Surveyed.{node_count}
use Rattle.plan_runner.specs.ProgressView.{at_start}
use Rattle.plan_runner.specs.Verifying.{commands_of}
use Rattle.plan_runner.specs.declared.plan_state.PlanState.TheVariants.{Running}
use Rattle.live_tests.proofs.Sitting.{not_begun}
use Rattle.live_tests.proofs.composed.sit.Goals as goal

pub returns-in-Err : goal.returns-in-Err
returns-in-Err g c =
    let start = at_start (node_count c.args.plan.survey) (commands_of c.args.plan.plan c.args.plan.survey) 1000000 in
    record {
      is_open = c.requires.is_open;
      verified = c.requires.verified;
      most = 1000000;
      state = Running start;
      sent = not_begun start c.args.admin c.in-Err.admin c.in-Err.ensures.back;
    }
