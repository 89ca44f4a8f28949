use Rattle.std.proofs.Common.{ap, map, ◌∙◌}
use Rattle.resp2_wire.specs.Tree.{trees_of}
use Rattle.resp2_wire.specs.declared.reply.Reply.TheVariants as reply
use Rattle.cluster_node.specs.Redirections.{range_tree, slots_reply}
use Rattle.cluster_node.specs.NodeView.{NodeView}
use Rattle.cluster_node.proofs.SlotEntries.{trees-map}
use Rattle.cluster_node.proofs.node.Node.look.Goals as goal

pub returns : goal.returns
unfolding slots_reply
returns c =
    let inside = c.self.inside in
    let ranges = c.as_slice.ensures.value ∙ c.in_ok-ranges.ensures in
    let entries = trees-map c.in_ok-entries.entries.items ∙ ap trees_of (c.in_ok-entries.ensures ∙ ap (map (range_tree inside.base_port)) ranges) in
    ap reply.Array (c.from_vec.ensures ∙ entries) ∙ ap (λ (x : NodeView). slots_reply x.base_port x.node.owners) c.self.view_is
