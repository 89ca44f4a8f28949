use Rattle.std.proofs.Common.{◌≡◌, length}
use Rattle.listed_nodes.specs.Nodes.{lines_in, nodes_of_text}
use Rattle.listed_nodes.proofs.Reading.{goes_on}
use Rattle.listed_nodes.proofs.node_line.nodes_in.Given as goal

-- what was found, and then the lines that are left
abbrev pub invariant-loop-line : goal.invariant-loop-line
invariant-loop-line l = nodes_of_text l.text ≡ goes_on l.found.items (lines_in l.lines)

abbrev pub decreases-loop-line : goal.decreases-loop-line
decreases-loop-line l = length l.lines
