-- What is said of a plan that is verified at a cluster of servers.
use Rattle.std.specs.Prelude.{◌≡◌, ◌⊎◌, ℕ, List, ◌++◌, Ok}
use Rattle.byte_streams.specs.Inputs.{IsWholeInput}
use Rattle.byte_streams.specs.Streams.{Input, Output}
use Rattle.key_slots.specs.Owners.{Owners}
use Rattle.transcripts.specs.PlanVerdicts.{SaysCount, SaysFault}
use Rattle.plan_language.specs.Lines.{plan_commands}
use Rattle.plan_language.specs.PlanView.{PlanView}
use Rattle.plan_language.specs.Texts.{any_plan_of_text}
use Rattle.plan_changes.specs.Loads.{load_of}
use Rattle.plan_changes.specs.declared.load.PlanLoad.{PlanLoad}
use Rattle.transcripts.specs.RunTexts.{load_text}
use Rattle.cluster_inspection.specs.Answers.{Tells}
use Rattle.cluster_inspection.specs.Refusals.{TellsRefusal}
use Rattle.cluster_inspection.specs.Starts.{AreCleanOwners, names_listed}

abbrev pub line_of : PlanLoad → List ℕ
line_of l = load_text l.moves l.keys l.commands

-- how many commands the plan stands for, and what it will move, by some keys of each slot
abbrev pub SaysLoad : Owners → PlanView → (status : ℕ) → (text : List ℕ) → Type 0
SaysLoad o plan status text = (count keys : List ℕ) × SaysCount o plan status count
    × (text ≡ count ++ line_of (load_of keys (plan_commands o.nodes plan.lines)))

-- by the owners that all servers of a clean cluster tell, which are numbered by the names of the plan
abbrev pub SaysOfPlanAt : PlanView → (status : ℕ) → (text : List ℕ) → Type 0
SaysOfPlanAt plan status text =
    (o : Owners) × AreCleanOwners (names_listed plan) o × (SaysLoad o plan status text ⊎ SaysFault o plan status text)

-- of the plan that the input is
abbrev pub IsAnswerAt : (input : List ℕ) → (status : ℕ) → (text : List ℕ) → Type 0
IsAnswerAt input status text =
    (plan : PlanView) × (any_plan_of_text input ≡ Ok plan) × SaysOfPlanAt plan status text

-- of the plan that was read
abbrev pub SaysAt : {R : Type 0} → Input R → (status : ℕ) → (text : List ℕ) → Type 0
SaysAt i status text =
    (input : List ℕ) × IsWholeInput i.gave i.ends i.before i.after input × IsAnswerAt input status text

-- that is written, or why there is nothing to say of a plan
abbrev pub VerifiesAt : {R W : Type 0} → Input R → Output W → (status : ℕ) → Type 0
VerifiesAt i o status = Tells (SaysAt i) o status ⊎ TellsRefusal o status
