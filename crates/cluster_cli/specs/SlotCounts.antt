-- How many slots a command moves.
use Rattle.std.specs.Prelude.{ℕ, List, count_by, max}
use Rattle.command_words.specs.declared.usage.SlotCount.{SlotCount}
use Rattle.command_words.specs.declared.usage.SlotCount.TheVariants.{AllOwned, Exactly}
use Rattle.cluster_cli.specs.DrainedNodes.{is_one}

-- how many slots have one of these nodes as their owner
abbrev pub owned_by : (nodes owners : List ℕ) → ℕ
owned_by nodes owners = count_by (is_one nodes) owners

-- So many; or all that the nodes own. Where they own none it is 1, which the planner refuses as more than they hold.
abbrev pub slots_asked : SlotCount → (nodes owners : List ℕ) → ℕ
slots_asked (Exactly n) nodes owners = n
slots_asked AllOwned nodes owners = max 1 (owned_by nodes owners)
