use Rattle.cluster_inspection.proofs.StrandedLines.{some_stranded}
use Rattle.cluster_runs.proofs.Looked.{goes_few, looks_as, looks_few}
use Rattle.cluster_runs.proofs.resume.resume_plan.Goals as goal

pub returns-clause-status : goal.returns-clause-status
returns-clause-status g c =
    looks_few _ c.args.words.now.run.plan c.go_on-status.result
    (record { took = g.W.ByteOut.took; failures = g.W.ByteOut.failures; before = c.go_on-status.new.writer; after = c.look_further.new.writer })
    c.look_further.result
    (goes_few c.args.words.now
    (record { took = g.W.ByteOut.took; failures = g.W.ByteOut.failures; before = c.args.writer.now; after = c.go_on-status.new.writer })
    c.go_on-status.result c.go_on-status.ensures) c.look_further.ensures

pub returns-clause-resumes : goal.returns-clause-resumes
returns-clause-resumes g c = (
  c.go_on-status.new.writer,
  c.go_on-status.result,
  c.go_on-status.ensures,
  looks_as _ _ c.args.words.now.run.plan c.go_on-status.result
      (record { took = g.W.ByteOut.took; failures = g.W.ByteOut.failures; before = c.go_on-status.new.writer; after = c.look_further.new.writer })
      c.look_further.result (some_stranded _) c.look_further.ensures,
)
