-- What is read and written where a cluster is asked for.
use Rattle.std.specs.Prelude.{◌≡◌, ◌⊎◌, List, Option, None, Some, Ok, Err, false, true, ℕ}
use Rattle.byte_streams.specs.Inputs.{IsWholeInput}
use Rattle.byte_streams.specs.Streams.{Input, Output}
use Rattle.cluster_cli.specs.Verifying.{HasNoAnswer}
use Rattle.command_words.specs.declared.usage.ServeWords.{ServeWords}
use Rattle.loopback_servers.specs.Served.{IsServedWhole}
use Rattle.loopback_servers.specs.Verdicts.{JudgesPlan}
use Rattle.loopback_servers.specs.declared.options.ServeOptions.{ServeOptions}
use Rattle.plan_language.specs.Faults.{parse_fault_text}
use Rattle.plan_language.specs.PlanView.{PlanView}
use Rattle.plan_language.specs.Texts.{plan_of_text}
use Rattle.plan_language.specs.declared.parse_fault.ParseFault.{ParseFault}
use Rattle.transcripts.specs.OutcomeTexts.{refused_text}
use Rattle.transcripts.specs.Writing.{Writes}

-- how the cluster is served
abbrev pub options_given : ServeWords → ServeOptions
options_given g = record {
  nodes = g.sizes.nodes;
  even = g.sizes.owning;
  base_port = g.base_port;
  workers = g.workers;
  connections = g.connections;
  answers_clients = g.answers_clients;
}

-- the plan that is all of the input, where the words ask for one, or none
abbrev pub IsGivenPlan : {R : Type 0} → Input R → ServeWords → Option PlanView → Type 0
IsGivenPlan i g None = (g.plan ≡ false) × (i.after ≡ i.before)
IsGivenPlan i g (Some plan) = (g.plan ≡ true)
    × (input : List ℕ) × IsWholeInput i.gave i.ends i.before i.after input × (plan_of_text input ≡ Ok plan)

-- the cluster was served to its end, with that plan
abbrev pub IsServedTo : {R W : Type 0} → Input R → Output W → ServeWords → Type 0
IsServedTo i o g = (plan : Option PlanView) × IsGivenPlan i g plan × IsServedWhole o (options_given g) plan

-- That plan is legal, or there is none, and each line that was written is true, as far as it came; or the fault of the
-- plan was written.
abbrev pub GavePlan : {R W : Type 0} → Input R → Output W → ServeWords → Type 0
GavePlan i o g = (plan : Option PlanView) × IsGivenPlan i g plan × JudgesPlan o (options_given g) plan 1

-- all of the input was read, and it is no plan: its fault was written, or a prefix of that where a write failed
abbrev pub RefusedPlan : {R W : Type 0} → Input R → Output W → Type 0
RefusedPlan i o = (input : List ℕ) × (fault : ParseFault) × IsWholeInput i.gave i.ends i.before i.after input
    × (plan_of_text input ≡ Err fault)
    × Writes o.took o.failures (refused_text (parse_fault_text fault)) o.before o.after

-- the cluster was not served to its end, or there was no plan where the words ask for one
abbrev pub IsUnserved : {R W : Type 0} → Input R → Output W → ServeWords → Type 0
IsUnserved i o g = GavePlan i o g ⊎ ((g.plan ≡ true) × (RefusedPlan i o ⊎ HasNoAnswer i o))
