use Rattle.std.proofs.Common.{◌∙◌, ◌++◌, ap, codes}
use Rattle.std.specs.Prelude.{decimal}
use Rattle.survey_texts.specs.Texts.{node_text}
use Rattle.server_replicas.proofs.Put.{before}
use Rattle.server_replicas.proofs.telling.put_replica.Goals as goal

pub returns : goal.returns
returns c =
    let last = c.put_node.new.out.items in
    let name = node_text c.args.node in
    let port = decimal c.args.replica.now.port in
    before c.put_node.result c.args.out.now.items c.put.new.out.items last c.args.replica.now.host
    (codes ":" ++ (port ++ (codes ", a replica of " ++ name)))
    (c.in_ok-put.ensures ∙ ap (λ x. c.args.out.now.items ++ x) c.get.ensures.value)
    (before c.put_node.result c.put.new.out.items c.put-2.new.out.items last (codes ":")
    (port ++ (codes ", a replica of " ++ name)) c.in_ok-put-2.ensures
    (before c.put_node.result c.put-2.new.out.items c.put_number.new.out.items last port
    (codes ", a replica of " ++ name)
    (c.in_ok-put_number.ensures ∙ ap (λ x. c.put-2.new.out.items ++ decimal x) c.from.ensures)
    (before c.put_node.result c.put_number.new.out.items c.put-3.new.out.items last (codes ", a replica of ") name
    c.in_ok-put-3.ensures c.put_node.ensures)))
