-- What is known of a line of a script once it is read.
use Rattle.std.specs.Prelude.{ℕ, ◌<◌, ◌≤◌}
use Rattle.cluster_admin.specs.Commands.{IsCommand}
use Rattle.script_lines.specs.declared.sizes.ClusterSizes.{ClusterSizes}
use Rattle.script_lines.specs.declared.line.Line.{Line}
use Rattle.script_lines.specs.declared.line.Line.TheVariants.{Call, Admin, Resume}

-- its node is in the cluster of so many, its command one that may be given to a node, and its batch 1 to 1,000 keys
abbrev pub IsLine : ℕ → Line → Type 0
IsLine nodes (Call node asking request) = node < nodes
IsLine nodes (Admin node command) = (node < nodes) × IsCommand command
IsLine nodes (Resume batch) = (1 ≤ batch) × (batch ≤ 1000)
IsLine nodes line = Unit {0}

-- one to eight nodes, of which one at least owns slots
abbrev pub AreSizes : ClusterSizes → Type 0
AreSizes s = (1 ≤ s.nodes) × (s.nodes ≤ 8) × (1 ≤ s.owning) × (s.owning ≤ s.nodes)
