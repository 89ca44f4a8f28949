use Rattle.std.proofs.Common.{ap, sym, ◌∙◌}
use Rattle.key_slots.specs.Owners.{Owners}
use Rattle.cluster_inspection.proofs.CleanOwners.{clean_owners, told_at}
use Rattle.cluster_inspection.proofs.VerifiedAt.{faulty, loaded}
use Rattle.cluster_inspection.proofs.verify.answer_of.Goals as goal
use Rattle.cluster_inspection.proofs.verify.answer_of.Goals.{in-Some+in_ok-load+in_ok-report_load, in_default}

pub returns-clause-says : goal.returns-clause-says
returns-clause-says g c = elim c.match-branch-4.branch [
  | in-Some+in_ok-load+in_ok-report_load w ↦
      loaded _ c.in_ok-owners.owners c.args.plan c.in_ok-copy.copy _ c.in_ok-verified.field-0 w.in-Some.verified w.in_ok-load.load
      c.verify_and_report.new.transcript w.report_load.new.self c.match-branch-4.answer w.in-Some.is c.in_ok-copy.ensures
      (sym c.args.servers.told ∙ sym (ap (λ (o : Owners). o.nodes) (c.in_ok-owners.ensures ∙ c.owners.ensures)))
      w.answer-is c.in_ok-verified.ensures.says w.in_ok-load.ensures.load w.in_ok-report_load.ensures
      (clean_owners _ c.args.servers.book c.args.servers.surveyed.survey _ _ _ c.requires.found c.requires.numbered c.requires.clean
      (told_at c.args.servers.surveyed.survey c.of.result c.in_ok-owners.owners (c.in_ok-owners.ensures
      ∙ c.owners.ensures)
      c.of.ensures))
  | in_default w ↦
      faulty _ c.in_ok-owners.owners c.args.plan c.in_ok-verified.field-0 c.verify_and_report.new.transcript
      c.match-branch-4.answer w.in_default.is w.answer-is c.in_ok-verified.ensures.says
      (clean_owners _ c.args.servers.book c.args.servers.surveyed.survey _ _ _ c.requires.found c.requires.numbered c.requires.clean
      (told_at c.args.servers.surveyed.survey c.of.result c.in_ok-owners.owners (c.in_ok-owners.ensures
      ∙ c.owners.ensures)
      c.of.ensures))
]
