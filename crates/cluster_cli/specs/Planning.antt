-- What is said of a plan that is asked for, and what of that is written.
use Rattle.std.specs.Prelude.{◌≡◌, ◌≢◌, ◌≤◌, ◌⊎◌, ℕ, List, [], ◌++◌, Option, Some, None, codes, Ok, Err}
pub use Rattle.cluster_cli.specs.DrainedNodes.{drain_named}
pub use Rattle.cluster_cli.specs.Misnaming.{misnamed_drain, misnamed_nodes, misnamed_weights}
pub use Rattle.cluster_cli.specs.NodeLists.{nodes_named}
pub use Rattle.cluster_cli.specs.Remarks.{drain_remark, outcome_of, rebalance_remark, reshard_remark}
pub use Rattle.cluster_cli.specs.SlotCounts.{slots_asked}
pub use Rattle.cluster_cli.specs.WeightsByName.{weights_asked}
use Rattle.byte_streams.specs.Streams.{Output}
use Rattle.command_words.specs.declared.usage.DrainWords.{DrainWords}
use Rattle.command_words.specs.declared.usage.RebalanceWords.{RebalanceWords}
use Rattle.command_words.specs.declared.usage.ReshardWords.{ReshardWords}
use Rattle.key_slots.specs.Owners.{Owners}
use Rattle.cluster_inspection.specs.Faults.{naming_fault_text}
use Rattle.cluster_inspection.specs.Naming.{IsUnnamed, named}
use Rattle.cluster_inspection.specs.declared.naming_fault.NamingFault.{NamingFault}
use Rattle.plan_language.specs.PlanView.{PlanView}
use Rattle.plan_language.specs.Texts.{plan_text}
use Rattle.reshard_planner.specs.Answers.{Answer, drain_answer, first_version, rebalance_answer, reshard_answer}
use Rattle.reshard_planner.specs.Faults.{planner_fault_text}
use Rattle.server_commands.specs.declared.book.Server.{Server}
use Rattle.transcripts.specs.OutcomeTexts.{refused_text}
use Rattle.cluster_inspection.specs.Answers.{IsNotWritten, IsWritten}
use Rattle.cluster_inspection.specs.Starts.{SaysUnstarted, StartsFrom}

-- ---- what is said, and the status of that

-- some of the nodes that the plan mentions can't be listed
abbrev pub SaysUnnamed : List Server → PlanView → (status : ℕ) → (text : List ℕ) → Type 0
SaysUnnamed b plan status text =
    (status ≡ 1) × ((f : NamingFault) × IsUnnamed b plan f × (text ≡ refused_text (naming_fault_text f)))

-- the plan; at a cluster of servers, if it lists nodes, with the names of those that it mentions
abbrev pub SaysPlan : (book : Option (List Server)) → PlanView → (status : ℕ) → (text : List ℕ) → Type 0
SaysPlan None plan status text = (status ≡ 0) × (text ≡ plan_text plan)
SaysPlan (Some b) plan status text =
    ((status ≡ 0) × (text ≡ plan_text (named b plan))) ⊎ SaysUnnamed b plan status text

-- the plan for so many nodes, by the rules of version 1, or why there is none
abbrev pub SaysPlanned : (nodes : ℕ) → (book : Option (List Server)) → Answer → (status : ℕ) → (text : List ℕ) → Type 0
SaysPlanned n book (Ok lines) status text = SaysPlan book (first_version n lines) status text
SaysPlanned n book (Err f) status text = (status ≡ 1) × (text ≡ refused_text (planner_fault_text f))

-- by the table of the slots' owners where the plan starts, or why there is none; and what is remarked of it
abbrev pub reshard_answers : ReshardWords → Owners → (sources : List ℕ) → (target : ℕ) → Answer
reshard_answers g o sources target = reshard_answer o sources target (slots_asked g.slots sources o.owners) g.batch

abbrev pub IsReshardAnswer : ReshardWords → (status : ℕ) → (text remark : List ℕ) → Type 0
IsReshardAnswer g status text remark = (SaysUnstarted g.start status text × (remark ≡ []))
    ⊎ ((o : Owners) × (book : Option (List Server)) × (sources : List ℕ) × (target : ℕ) × StartsFrom g.start [] book o
    × (nodes_named o.nodes g ≡ Some (sources, target))
    × SaysPlanned o.nodes book (reshard_answers g o sources target) status text
    × (remark ≡ reshard_remark (outcome_of (reshard_answers g o sources target)) sources o.owners))

abbrev pub rebalance_answers : RebalanceWords → Owners → (weights : List ℕ) → Answer
rebalance_answers g o weights = rebalance_answer o weights g.threshold g.use_empty g.batch

abbrev pub IsRebalanceAnswer : RebalanceWords → (status : ℕ) → (text remark : List ℕ) → Type 0
IsRebalanceAnswer g status text remark = (SaysUnstarted g.start status text × (remark ≡ []))
    ⊎ ((o : Owners) × (book : Option (List Server)) × (weights : List ℕ) × StartsFrom g.start [] book o
    × (weights_asked o.nodes g ≡ Some weights)
    × SaysPlanned o.nodes book (rebalance_answers g o weights) status text
    × (remark ≡ rebalance_remark (outcome_of (rebalance_answers g o weights)) g.use_empty o))

abbrev pub IsDrainAnswer : DrainWords → (status : ℕ) → (text remark : List ℕ) → Type 0
IsDrainAnswer g status text remark = (SaysUnstarted g.start status text × (remark ≡ []))
    ⊎ ((o : Owners) × (book : Option (List Server)) × (sources : List ℕ) × (targets : List ℕ)
    × StartsFrom g.start [] book o × (drain_named o.nodes g ≡ Some (sources, targets))
    × SaysPlanned o.nodes book (drain_answer o sources targets g.batch) status text
    × (remark ≡ drain_remark (outcome_of (drain_answer o sources targets g.batch))))

-- the words name no nodes of the cluster, or not a weight for each, and this is reported
abbrev pub NamesNoNodes : ReshardWords → (report : List ℕ) → Type 0
NamesNoNodes g report = (o : Owners) × (book : Option (List Server)) × StartsFrom g.start [] book o
    × (nodes_named o.nodes g ≡ None) × (report ≡ misnamed_nodes o.nodes g)

abbrev pub NamesNoDrain : DrainWords → (report : List ℕ) → Type 0
NamesNoDrain g report = (o : Owners) × (book : Option (List Server)) × StartsFrom g.start [] book o
    × (drain_named o.nodes g ≡ None) × (report ≡ misnamed_drain o.nodes g)

abbrev pub NamesNoWeights : RebalanceWords → (report : List ℕ) → Type 0
NamesNoWeights g report = (o : Owners) × (book : Option (List Server)) × StartsFrom g.start [] book o
    × (weights_asked o.nodes g ≡ None) × (report ≡ misnamed_weights o.nodes g)

-- ---- what is written

-- Such an answer is written, and its remark on standard error; unless the words are misnamed, which is reported.
pub record Plans {W E : Type 0} (says : (status : ℕ) → (text remark : List ℕ) → Type 0)
    (misnamed : (report : List ℕ) → Type 0) (o : Output W) (e : Output E) (status : ℕ) : Type 0 where
  pub few : status ≤ 2
  pub remark : List ℕ
  pub planned : status ≡ 0 → IsWritten (λ s t. says s t remark) o 0 × (o.failures o.after ≡ o.failures o.before)
  pub refused : status ≡ 1 → IsWritten (λ s t. says s t remark) o 1 ⊎ (IsNotWritten (λ s t. says s t remark) o
      ⊎ ((report : List ℕ) × misnamed report × (o.after ≡ o.before) × (e.failures e.after ≢ e.failures e.before)))
  pub reported : status ≡ 2 → (report : List ℕ) × misnamed report × (o.after ≡ o.before)
      × e.took e.before report e.after × (e.failures e.after ≡ e.failures e.before)
  pub remarked : status ≢ 2 → e.failures e.after ≡ e.failures e.before → e.took e.before remark e.after
