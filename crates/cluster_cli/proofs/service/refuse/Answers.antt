use Rattle.std.proofs.Common.{inl}
use Rattle.plan_language.specs.Faults.{parse_fault_text}
use Rattle.transcripts.specs.OutcomeTexts.{refused_text}
use Rattle.cluster_cli.proofs.Unserved.{reported}
use Rattle.cluster_cli.proofs.service.refuse.Goals as goal

pub returns-in-Ok-clause-reported : goal.returns-in-Ok-clause-reported
returns-in-Ok-clause-reported g c = inl (
  c.in-Ok.ensures.cause,
  reported g.W.ByteOut.took g.W.ByteOut.failures c.in-Ok.answer.printed.items (refused_text (parse_fault_text c.args.fault))
      c.args.writer.now c.report.new.writer c.in-Ok.ensures.text c.report.ensures.reported,
)
