use Rattle.cluster_reports.proofs.Chains.{on_ok_of}
use Rattle.cluster_reports.proofs.Lengths.{length-state_text}
use Rattle.cluster_reports.proofs.state_lines.put_lines.Goals as goal

pub returns-clause-short : goal.returns-clause-short
returns-clause-short c =
    on_ok_of c.put_last.result (length-state_text c.args.table.now c.nodes.ensures.most c.me.ensures.named)
