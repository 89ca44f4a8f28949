use Rattle.std.proofs.Common.{◌∙◌}
use Rattle.cluster_inspection.proofs.CleanOwners.{says_count, told_at}
use Rattle.cluster_runs.proofs.preparing.verified.Goals as goal

pub returns-in-Some-clause-says : goal.returns-in-Some-clause-says
returns-in-Some-clause-says g c =
    let v = c.args.servers.surveyed.survey in
    let text = c.verify_and_report.new.transcript in
    says_count _ c.in_ok-owners.owners v c.args.plan c.in_ok-plan.field-0 c.in-Some.plan text.status text.printed.items
    c.in-Some.is (told_at v c.of.result c.in_ok-owners.owners (c.in_ok-owners.ensures ∙ c.owners.ensures) c.of.ensures)
    c.in_ok-plan.ensures.says
