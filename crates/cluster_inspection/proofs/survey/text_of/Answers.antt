use Rattle.std.proofs.Common.{inr, sym, subst₂}
use Rattle.cluster_survey.specs.Found.{IsFoundBeside}
use Rattle.server_replicas.specs.Replicas.{asking_of}
use Rattle.server_versions.specs.Asking.{AsksVersion}
use Rattle.survey_details.specs.Asking.{telling_of}
use Rattle.cluster_inspection.proofs.Lines.{survey_shown}
use Rattle.cluster_inspection.proofs.Shown.{versions_shown}
use Rattle.cluster_inspection.proofs.survey.text_of.Goals as goal

pub detailed-requires : goal.detailed-requires
detailed-requires g c =
    subst₂
    (λ left n. IsFoundBeside left c.args.servers.book c.args.servers.surveyed.survey
    c.args.servers.surveyed.epochs.items n)
    (sym c.as_slice.ensures.value) (sym c.show_servers.ensures.kept) c.requires

pub returns-in-Ok-clause-says : goal.returns-in-Ok-clause-says
returns-in-Ok-clause-says g c =
    survey_shown (telling_of (record { gave = g.D.Input.ByteIn.gave; took = g.D.Output.ByteOut.took })) c.args.details _
    c.detailed.result c.detailed.ensures.says
    (versions_shown
    (asking_of g.D.Reach.reaches g.D.Reach.refuses
    (record { gave = g.D.Input.ByteIn.gave; took = g.D.Output.ByteOut.took }) c.args.credentials.now)
    c.args.servers.book c.args.servers.surveyed.survey
    (AsksVersion (record { gave = g.D.Input.ByteIn.gave; took = g.D.Output.ByteOut.took }))
    (record {
      took = g.E.ByteOut.took;
      failures = g.E.ByteOut.failures;
      before = c.args.errors.now;
      after = c.show_servers.new.errors;
    })
    c.in-Ok.ensures.shown)

pub returns-in-Ok-clause-shows : goal.returns-in-Ok-clause-shows
returns-in-Ok-clause-shows g c =
    inr
    (versions_shown
    (asking_of g.D.Reach.reaches g.D.Reach.refuses
    (record { gave = g.D.Input.ByteIn.gave; took = g.D.Output.ByteOut.took }) c.args.credentials.now)
    c.args.servers.book c.args.servers.surveyed.survey
    (AsksVersion (record { gave = g.D.Input.ByteIn.gave; took = g.D.Output.ByteOut.took }))
    (record {
      took = g.E.ByteOut.took;
      failures = g.E.ByteOut.failures;
      before = c.args.errors.now;
      after = c.show_servers.new.errors;
    })
    c.in-Ok.ensures.shown)
