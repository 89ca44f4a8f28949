use Rattle.plan_language.specs.Texts.{plan_of_text}
use Rattle.cluster_cli.proofs.PlanAnswers.{says_fault, says_plan}
use Rattle.cluster_cli.proofs.verifying.answer_by.Goals as goal
use Rattle.cluster_cli.proofs.verifying.answer_by.Goals.{in-Ok+in_ok-answer_plan-in-Ok}
use Rattle.cluster_cli.proofs.verifying.answer_by.Goals.{in-Err+in_ok-report_no_plan-in-Err}

pub returns-clause-says : goal.returns-clause-says
returns-clause-says c = elim c.match-parse.branch [
  | in-Ok+in_ok-answer_plan-in-Ok w ↦ says_plan c.args.owners.now (plan_of_text c.args.text.now) _ c.match-parse.transcript _ w.in-Ok.ensures w.transcript-is w.in_ok-answer_plan-in-Ok.ensures.says
  | in-Err+in_ok-report_no_plan-in-Err w ↦
      says_fault c.args.owners.now (plan_of_text c.args.text.now) w.in-Err.fault c.new-transcript.result c.match-parse.transcript _ w.in-Err.ensures w.in_ok-report_no_plan-in-Err.ensures.0 c.new-transcript.ensures.printed w.transcript-is w.in_ok-report_no_plan-in-Err.ensures.1
]
