use Rattle.std.proofs.Common.{◌++◌, ap, map, ◌∙◌}
use Rattle.std.proofs.lemmas.Result.{on_ok_weaker}
use Rattle.std.specs.Prelude.{codes, pos}
use Rattle.resp2_wire.specs.Tree.{bulk, number}
use Rattle.resp2_wire.specs.View.{tree}
use Rattle.cluster_node.specs.Redirections.{id_of, ip}
use Rattle.cluster_reports.specs.Shards.{fact}
use Rattle.cluster_reports.proofs.Chains.{four}
use Rattle.cluster_reports.proofs.shards.put_address.Goals as goal

pub returns : goal.returns
returns c =
    on_ok_weaker c.put_bulk-2.result
    (λ last.
    four (map tree c.args.out.now.items) (map tree c.put_fact.new.out.items) (map tree c.put_number.new.out.items)
    (map tree c.put_bulk.new.out.items) (map tree c.put_bulk-2.new.out.items)
    (fact (codes "id") (bulk (id_of c.args.node))) (fact (codes "port") (number (pos c.args.port)))
    (fact (codes "ip") (bulk ip)) (fact (codes "endpoint") (bulk ip))
    (c.in_ok-put_fact.ensures
    ∙ ap (λ id. map tree c.args.out.now.items ++ fact (codes "id") (bulk id)) c.in_ok-id.ensures)
    c.in_ok-put_number.ensures c.in_ok-put_bulk.ensures last)
    c.put_bulk-2.ensures
