use Rattle.cluster_cli.proofs.PlanAnswers.{said_status, says_of_plan}
use Rattle.cluster_cli.proofs.verifying.answer_plan.Goals as goal

pub returns-clause-status : goal.returns-clause-status
returns-clause-status c =
    said_status c.args.owners.now c.args.plan _ _
    (says_of_plan c.args.owners.now c.args.plan c.in_ok-verified.verified _ _ _ c.in_ok-verified.ensures.says)

pub returns-clause-says : goal.returns-clause-says
returns-clause-says c = says_of_plan c.args.owners.now c.args.plan c.in_ok-verified.verified _ _ _ c.in_ok-verified.ensures.says
