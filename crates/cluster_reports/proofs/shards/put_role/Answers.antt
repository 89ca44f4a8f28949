use Rattle.std.proofs.Common.{map}
use Rattle.std.proofs.lemmas.Result.{on_ok_weaker}
use Rattle.std.specs.Prelude.{codes, pos}
use Rattle.resp2_wire.specs.Tree.{bulk, number}
use Rattle.resp2_wire.specs.View.{tree}
use Rattle.cluster_reports.specs.Shards.{fact}
use Rattle.cluster_reports.proofs.Chains.{three}
use Rattle.cluster_reports.proofs.shards.put_role.Goals as goal

pub returns : goal.returns
returns c =
    on_ok_weaker c.put_bulk-2.result
    (λ last.
    three (map tree c.args.out.now.items) (map tree c.put_bulk.new.out.items) (map tree c.put_number.new.out.items)
    (map tree c.put_bulk-2.new.out.items) (fact (codes "role") (bulk (codes "master")))
    (fact (codes "replication-offset") (number (pos 0))) (fact (codes "health") (bulk (codes "online")))
    c.in_ok-put_bulk.ensures c.in_ok-put_number.ensures last)
    c.put_bulk-2.ensures
