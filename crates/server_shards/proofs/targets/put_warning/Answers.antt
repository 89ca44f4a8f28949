use Rattle.std.proofs.Common.{codes}
use Rattle.survey_texts.specs.Texts.{node_text}
use Rattle.server_shards.proofs.Put.{three}
use Rattle.server_shards.proofs.targets.put_warning.Goals as goal

pub returns : goal.returns
returns c =
    three c.put-2.result c.args.out.now.items (codes " failed, and takes the slots of ") (node_text c.args.node)
    (codes " if it returns as it was: start it first (it becomes a replica), or remove its nodes.conf, ")
    c.put.new.out.items c.put_node.new.out.items c.put-2.new.out.items c.in_ok-put.ensures c.in_ok-put_node.ensures
    c.put-2.ensures
