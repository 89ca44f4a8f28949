-- How a load grows by a command.
use Rattle.std.specs.Prelude.{ℕ, ◌+◌, ◌*◌, List}
use Rattle.plan_language.specs.declared.plan_command.PlanCommand.{PlanCommand}
use Rattle.plan_language.specs.declared.plan_command.PlanCommand.TheVariants.{Drain}
use Rattle.plan_semantics.specs.Costs.{rounds}
use Rattle.plan_changes.specs.Loads.{keys_at, most}
use Rattle.plan_changes.specs.declared.load.PlanLoad.{PlanLoad}

abbrev pub with_command : (keys : List ℕ) → PlanCommand → PlanLoad → PlanLoad
with_command ks (Drain s m t b) l = record {
  moves = most (l.moves + 1);
  keys = most (l.keys + keys_at ks s);
  commands = most (l.commands + (2 * rounds b (keys_at ks s) + 1));
}
with_command ks c l = record l { commands = most (l.commands + 1) }
