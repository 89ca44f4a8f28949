use Rattle.std.proofs.Common.{rules}
use Rattle.key_slots.proofs.OwnerTables.{table_of}
use Rattle.key_slots.specs.Owners.{IsTable}
use Rattle.transcripts.proofs.Verdicts.{says_count, says_fault}
use Rattle.transcripts.proofs.verdict.verify_and_report.Goals as goal

pub returns-in_ok-report_verified-in-Ok : goal.returns-in_ok-report_verified-in-Ok
returns-in_ok-report_verified-in-Ok c =
    let table : IsTable c.args.owners.now = table_of c.args.owners.now c.nodes.result (search rules) (search rules)
    (search rules) (search rules) (search rules) in
    record {
      says = (
        search rules,
        says_count c.args.plan c.args.owners.now table c.args.transcript.now c.report_verified.new.self (search rules)
            c.expanded_len-commands.result c.nodes.result (search rules) (search rules) (search rules) (search rules) (search rules),
      );
    }

pub returns-in_ok-report_not_legal-in-Err : goal.returns-in_ok-report_not_legal-in-Err
returns-in_ok-report_not_legal-in-Err c =
    let table : IsTable c.args.owners.now = table_of c.args.owners.now c.nodes.result (search rules) (search rules)
    (search rules) (search rules) (search rules) in
    record {
      says = says_fault c.args.plan c.args.owners.now table c.args.transcript.now c.report_not_legal.new.self
          (search rules) c.in-Err.fault (search rules)
          (search rules);
    }
