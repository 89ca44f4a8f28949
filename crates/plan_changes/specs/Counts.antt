-- How many commands of each kind there are.
use Rattle.std.specs.Prelude.{◌+◌, ◌<◌, Bool, true, false, List, count_by}
use Rattle.plan_language.specs.declared.plan_command.PlanCommand.{PlanCommand}
use Rattle.plan_language.specs.declared.plan_command.PlanCommand.TheVariants.{Importing, Migrating, Drain, SetNode}
use Rattle.plan_language.specs.declared.plan_command.PlanCommand.TheVariants.{Stable}
use Rattle.plan_outlines.specs.declared.counts.CommandCounts.{CommandCounts}

abbrev pub is_importing : PlanCommand → Bool
is_importing (Importing s m at) = true
is_importing c = false

abbrev pub is_migrating : PlanCommand → Bool
is_migrating (Migrating s m at) = true
is_migrating c = false

abbrev pub is_drain : PlanCommand → Bool
is_drain (Drain s m t b) = true
is_drain c = false

abbrev pub is_node : PlanCommand → Bool
is_node (SetNode s m at) = true
is_node c = false

abbrev pub is_stable : PlanCommand → Bool
is_stable (Stable s at) = true
is_stable c = false

abbrev pub counts_of : List PlanCommand → CommandCounts
counts_of plan = record {
  importing = count_by is_importing plan;
  migrating = count_by is_migrating plan;
  drain = count_by is_drain plan;
  node = count_by is_node plan;
  stable = count_by is_stable plan;
}

-- the counts with one command more
abbrev pub counted : CommandCounts → PlanCommand → CommandCounts
counted k (Importing s m at) = record k { importing = k.importing + 1 }
counted k (Migrating s m at) = record k { migrating = k.migrating + 1 }
counted k (Drain s m t b) = record k { drain = k.drain + 1 }
counted k (SetNode s m at) = record k { node = k.node + 1 }
counted k (Stable s at) = record k { stable = k.stable + 1 }

-- one more of each fits 32 bits
pub record HasRoom (k : CommandCounts) : Type 0 where
  pub importing : k.importing < 4294967295
  pub migrating : k.migrating < 4294967295
  pub drain : k.drain < 4294967295
  pub node : k.node < 4294967295
  pub stable : k.stable < 4294967295
