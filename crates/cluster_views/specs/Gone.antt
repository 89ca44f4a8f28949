-- Masters that failed for good: most masters take one for dead (the flag `fail` of CLUSTER NODES), and it has no slot,
-- as where a replica has taken its place. `fail?` is the opinion of one server alone, and leaves nobody out.
use Rattle.std.specs.Prelude.{Bool, not, ◌&&◌, ◌==◌, length}
use Rattle.listed_nodes.specs.declared.node_line.NodeLine.{NodeLine}

abbrev pub is_gone : NodeLine → Bool
is_gone l = l.is_master && (l.has_failed && length l.slots == 0)

-- a master that is not gone, with slots or without
abbrev pub is_present : NodeLine → Bool
is_present l = l.is_master && not (l.has_failed && length l.slots == 0)
