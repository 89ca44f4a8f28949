use Rattle.cluster_inspection.specs.Stranded.{SaysSomeStranded}
use Rattle.cluster_inspection.proofs.Lines.{some_survey}
use Rattle.cluster_inspection.proofs.StrandedLines.{looks_as, some_stranded, tells_as}
use Rattle.cluster_inspection.proofs.survey.survey_cluster.Goals as goal

pub returns-clause-tells : goal.returns-clause-tells
returns-clause-tells g c = (
  c.print_survey-status.new.writer,
  c.print_survey-status.result,
  c.print_survey-status.ensures.tells,
  looks_as _ SaysSomeStranded c.args.words.now.stranded c.print_survey-status.result
      (record {
        took = g.W.ByteOut.took;
        failures = g.W.ByteOut.failures;
        before = c.print_survey-status.new.writer;
        after = c.look_if_clean.new.writer;
      })
      c.look_if_clean.result (some_stranded _) c.look_if_clean.ensures.looks,
)

pub returns-clause-says : goal.returns-clause-says
returns-clause-says g c = (
  c.print_survey-status.new.writer,
  c.print_survey-status.result,
  tells_as _ _
      (record {
        took = g.W.ByteOut.took;
        failures = g.W.ByteOut.failures;
        before = c.args.writer.now;
        after = c.print_survey-status.new.writer;
      })
      c.print_survey-status.result (some_survey _ _ _) c.print_survey-status.ensures.tells,
  looks_as _ SaysSomeStranded c.args.words.now.stranded c.print_survey-status.result
      (record {
        took = g.W.ByteOut.took;
        failures = g.W.ByteOut.failures;
        before = c.print_survey-status.new.writer;
        after = c.look_if_clean.new.writer;
      })
      c.look_if_clean.result (some_stranded _) c.look_if_clean.ensures.looks,
)
