use Rattle.std.proofs.Common.{subst}
use Rattle.cluster_inspection.specs.VerifyingFrom.{VerifiesPlainly}
use Rattle.command_words.specs.declared.usage.Start.{Start}
use Rattle.cluster_cli.proofs.verifying.verify_from.Goals as goal

pub returns-in-Even : goal.returns-in-Even
returns-in-Even g c =
    let did = c.verify_plan.ensures in
    rw c.in-Even.is
    (record { few = did.status; verified = did.verified; refused = did.refused; read = did.read; unfailed = did.unfailed })

pub returns-in-Cluster : goal.returns-in-Cluster
returns-in-Cluster g c = rw c.in-Cluster.is c.verify_at.ensures

pub returns-in-Survey : goal.returns-in-Survey
returns-in-Survey g c =
    let verifies : Start → Type 0
    = λ start. VerifiesPlainly start (record {
      gave = g.R.ByteIn.gave;
      ends = g.R.ByteIn.ends;
      failures = g.R.ByteIn.failures;
      before = c.args.reader.now;
      after = c.verify_plainly.new.reader;
    }) (record {
      took = g.W.ByteOut.took;
      failures = g.W.ByteOut.failures;
      before = c.args.writer.now;
      after = c.verify_plainly.new.writer;
    }) c.verify_plainly.result in
    rw c.in-Survey.is (subst verifies c.in-Survey.is c.verify_plainly.ensures)
