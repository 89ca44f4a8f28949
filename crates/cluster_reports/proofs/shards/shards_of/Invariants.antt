use Rattle.std.proofs.Common.{◌≡◌, map}
use Rattle.resp2_wire.specs.View.{tree}
use Rattle.cluster_reports.specs.Numbered.{below}
use Rattle.cluster_reports.specs.Shards.{shard_list}
use Rattle.cluster_reports.proofs.shards.shards_of.Given as goal

-- the shards of the nodes before
abbrev pub invariant-loop-number : goal.invariant-loop-number
invariant-loop-number l = map tree l.shards.items ≡ below (shard_list l.base_port l.table.owners) l.number
