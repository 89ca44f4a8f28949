use Rattle.plan_previews.proofs.Unshown.{fault_told}
use Rattle.plan_previews.proofs.verdicts.verdict_of.Goals as goal

pub returns-in-None-clause-fault : goal.returns-in-None-clause-fault
returns-in-None-clause-fault c =
    fault_told _ c.args.owners.now c.args.plan.now c.in_ok-copy.copy c.in_ok-found.found c.verify_and_report.new.transcript
    c.in-None.is c.in_ok-copy.ensures c.in_ok-found.ensures.says
