-- What a plan comes to.
use Rattle.std.specs.Prelude.{◌≡◌, ℕ, List, [], Option, None, Some, unwrap_or}
use Rattle.std.specs.List.Sorted.{IsPermutation, IsSorted}
use Rattle.plan_language.specs.declared.plan_command.PlanCommand.{PlanCommand}
use Rattle.plan_changes.specs.Loads.{load_of}
use Rattle.plan_outlines.specs.declared.counts.KeyLoad.{KeyLoad}
use Rattle.plan_outlines.specs.declared.outline.PlanOutline.{PlanOutline}
use Rattle.plan_outlines.specs.Changes.{change_ranges}
use Rattle.plan_outlines.specs.Nodes.{changes_of_nodes}
use Rattle.plan_outlines.specs.Pairs.{moved_pairs, pair_cmp}
use Rattle.plan_changes.specs.Batches.{least_batch, most_batch}
use Rattle.plan_changes.specs.Counts.{counts_of}
use Rattle.plan_changes.specs.Drains.{moved_again, moved_back}
use Rattle.plan_changes.specs.Finals.{owners_after}
use Rattle.plan_changes.specs.Opening.{IsMostOpen}

abbrev pub key_load : (keys : List ℕ) → List PlanCommand → KeyLoad
key_load keys plan = record { keys = (load_of keys plan).keys; calls = (load_of keys plan).commands }

-- the load is known where the keys are
abbrev pub load_by : Option (List ℕ) → List PlanCommand → Option KeyLoad
load_by None plan = None
load_by (Some keys) plan = Some (key_load keys plan)

-- what these commands come to in a cluster of so many nodes, from these owners; slots have no keys where none are known
pub record IsOutline (n : ℕ) (plan : List PlanCommand) (owners : List ℕ) (keys : Option (List ℕ)) (o : PlanOutline)
    : Type 0 where
  pub ranges : o.ranges.items ≡ change_ranges owners (owners_after plan owners)
  pub nodes : o.nodes.items ≡ changes_of_nodes n owners (owners_after plan owners)
  pub pairs : IsPermutation (moved_pairs n owners (owners_after plan owners) (unwrap_or keys [])) o.pairs.items
  pub sorted : IsSorted pair_cmp o.pairs.items
  pub counts : o.counts ≡ counts_of plan
  pub least : o.least_batch ≡ least_batch plan
  pub most : o.most_batch ≡ most_batch plan
  pub again : o.moved_again.items ≡ moved_again plan
  pub back : o.moved_back.items ≡ moved_back plan owners
  pub at_once : IsMostOpen n plan owners o.most_open
  pub load : o.load ≡ load_by keys plan
