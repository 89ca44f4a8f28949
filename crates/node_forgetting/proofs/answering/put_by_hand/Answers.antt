use Rattle.std.proofs.Common.{◌∙◌, ◌++◌, ap, codes}
use Rattle.server_replicas.proofs.Put.{before}
use Rattle.node_forgetting.proofs.answering.put_by_hand.Goals as goal

pub returns : goal.returns
returns c =
    let last = c.put-3.new.out.items in
    let id = c.args.id.now in
    before c.put-3.result c.args.out.now.items c.put.new.out.items last (codes "; send it CLUSTER FORGET ")
    (id ++ codes " within a minute\n") c.in_ok-put.ensures
    (before c.put-3.result c.put.new.out.items c.put-2.new.out.items last id (codes " within a minute\n")
    (c.in_ok-put-2.ensures ∙ ap (λ x. c.put.new.out.items ++ x) c.get.ensures.value) c.put-3.ensures)
