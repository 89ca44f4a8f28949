-- How many nodes and commands a plan has at most.
use Rattle.std.specs.Prelude.{Option, None, Some}
use Rattle.node_names.specs.Names.{Names}
use Rattle.plan_language.specs.declared.limits.Limits.{Limits}

-- in versions 1 to 3
abbrev pub few : Limits
few = record { nodes = 8; commands = 200000 }

-- in versions 4 and 5: as many commands as a move of each slot counts as
abbrev pub many : Limits
many = record { nodes = 255; commands = 4227072 }

-- versions 4 and 5 are those with names
abbrev pub limits_of : Option Names → Limits
limits_of None = few
limits_of (Some names) = many
