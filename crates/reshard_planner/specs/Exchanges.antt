-- Plans by how many slots each node gives and takes.
use Rattle.std.specs.Prelude.{◌≡◌, ℕ, ◌≤◌, List, Ok, slice_index}
use Rattle.byte_texts.specs.Outcomes.{RefusedUnlessMemory}
use Rattle.key_slots.specs.Owners.{IsTable, Owners}
use Rattle.plan_language.specs.declared.line.Line.{Line}
use Rattle.reshard_planner.specs.Sums.{sum_below}
use Rattle.reshard_planner.specs.declared.planner_fault.PlannerFault.{PlannerFault}
use Rattle.reshard_planner.specs.Answers.{Answer}
use Rattle.reshard_planner.specs.Faults.{is_memory}
use Rattle.reshard_planner.specs.Grouping.{plan_of}
use Rattle.reshard_planner.specs.Transfers.{transfers}

-- the plan by which each node gives and takes so many slots
abbrev pub exchanged : Owners → (gives takes : List ℕ) → (batch : ℕ) → List Line
exchanged o gives takes batch =
    plan_of batch (transfers o.owners (λ node. slice_index gives node) (λ node. slice_index takes node) o.nodes)

-- the answer is that plan, whatever the batch
pub record IsAnsweredBy (o : Owners) (answer : ℕ → Answer) (gives takes : List ℕ) : Type 0 where
  pub table : IsTable o
  pub few : sum_below (λ node. slice_index gives node) o.nodes ≤ 16384
  pub is : (batch : ℕ) → answer batch ≡ Ok (exchanged o gives takes batch)

-- the answer is the fault, whatever the batch, or memory ran out in the place of a plan
abbrev pub IsRefused : (answer : ℕ → Answer) → PlannerFault → Type 0
IsRefused answer fault = (batch : ℕ) → RefusedUnlessMemory is_memory (answer batch) fault
