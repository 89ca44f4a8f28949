use Rattle.std.proofs.Common.{ap, ◌∙◌}
use Rattle.resp2_wire.specs.Tree.{trees_of}
use Rattle.resp2_wire.specs.declared.reply.Reply.TheVariants as reply
use Rattle.cluster_reports.specs.Shards.{shards_reply}
use Rattle.cluster_reports.proofs.Trees.{trees_mapped}
use Rattle.cluster_reports.proofs.shards.shards_reply.Goals as goal

pub returns : goal.returns
unfolding shards_reply
returns c =
    ap reply.Array
    (c.from_vec.ensures ∙ trees_mapped c.in_ok-shards.shards.items ∙ ap trees_of c.in_ok-shards.ensures)
