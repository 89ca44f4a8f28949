use Rattle.std.proofs.Common.{◌≡◌, take}
use Rattle.node_forgetting.specs.Others.{others}
use Rattle.node_forgetting.proofs.other_nodes.others.Given as goal

-- those of the lines before
abbrev pub invariant-loop-line : goal.invariant-loop-line
invariant-loop-line l = l.servers.items ≡ others l.id (take l.line-index l.lines)
