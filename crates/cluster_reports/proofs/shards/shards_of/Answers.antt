use Rattle.std.proofs.Common.{[], ◌∷◌, map, ap, ◌∙◌, arith, sym}
use Rattle.resp2_wire.specs.View.{tree}
use Rattle.cluster_reports.specs.Shards.{shard_list, shard_tree}
use Rattle.cluster_reports.proofs.Numbers.{below-zero}
use Rattle.cluster_reports.proofs.Trees.{trees_all, trees_more}
use Rattle.cluster_reports.proofs.shards.shards_of.Goals as goal

pub loop-number-init : goal.loop-number-init
loop-number-init c =
    ap (map tree) c.new-shards.ensures.items ∙ sym (below-zero (shard_list c.args.base_port c.args.table.now.owners))

pub loop-number-preserved : goal.loop-number-preserved
loop-number-preserved c =
    let ranges = c.as_slice.ensures.value ∙ c.in_ok-ranges.ensures in
    trees_more (shard_list c.args.base_port c.args.table.now.owners) c.loop-number.number c.of.result
    c.loop-number.shards.items c.push.new.self.items c.in_ok-shard.shard c.of.ensures c.loop-number.invariant
    c.in_ok-push.ensures.items
    (ap (λ t. t ∷ []) (c.in_ok-shard.ensures ∙ ap (λ rs. shard_tree c.args.base_port rs c.of.result) ranges))

pub returns : goal.returns
returns c =
    let nodes = c.nodes-number-end.ensures.value in
    trees_all (shard_list c.args.base_port c.args.table.now.owners) c.args.table.now.nodes c.loop-number.number
    c.loop-number.shards.items (omega (arith, nodes)) (omega (arith, nodes)) c.loop-number.invariant
