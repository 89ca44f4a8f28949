use Rattle.cluster_inspection.proofs.FileRead.{says_of_plan}
use Rattle.cluster_inspection.proofs.plain_verdicts.verdict_on.Goals as goal

pub returns : goal.returns
returns c =
    says_of_plan c.args.owners.now c.args.plan c.in_ok-verified.verified _ _ _ c.in_ok-verified.ensures.says
