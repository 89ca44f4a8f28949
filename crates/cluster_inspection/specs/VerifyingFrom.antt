-- What is said of a plan that is verified where it starts, without the keys that it moves.
use Rattle.std.specs.Prelude.{◌≡◌, ◌⊎◌, ℕ, List, Ok, Option}
use Rattle.byte_streams.specs.Inputs.{IsWholeInput}
use Rattle.byte_streams.specs.Streams.{Input, Output}
use Rattle.command_words.specs.declared.usage.Start.{Start}
use Rattle.key_slots.specs.Owners.{Owners}
use Rattle.plan_language.specs.PlanView.{PlanView}
use Rattle.server_commands.specs.declared.book.Server.{Server}
use Rattle.transcripts.specs.PlanVerdicts.{SaysOfPlan}
use Rattle.cluster_inspection.specs.Answers.{Tells}
use Rattle.cluster_inspection.specs.Refusals.{TellsRefusal, plan_from}
use Rattle.cluster_inspection.specs.Starts.{StartsFrom, names_listed}

-- of the plan, by the owners where it starts
abbrev pub SaysOfPlanFrom : Start → PlanView → (status : ℕ) → (text : List ℕ) → Type 0
SaysOfPlanFrom start plan status text = (o : Owners) × (book : Option (List Server))
    × StartsFrom start (names_listed plan) book o × SaysOfPlan o plan status text

-- of the plan that the input is
abbrev pub IsAnswerFrom : Start → (input : List ℕ) → (status : ℕ) → (text : List ℕ) → Type 0
IsAnswerFrom start input status text =
    (plan : PlanView) × (plan_from start input ≡ Ok plan) × SaysOfPlanFrom start plan status text

-- of the plan that was read
abbrev pub SaysFrom : {R : Type 0} → Start → Input R → (status : ℕ) → (text : List ℕ) → Type 0
SaysFrom start i status text =
    (input : List ℕ) × IsWholeInput i.gave i.ends i.before i.after input × IsAnswerFrom start input status text

-- that is written, or why there is nothing to say of a plan
abbrev pub VerifiesPlainly : {R W : Type 0} → Start → Input R → Output W → (status : ℕ) → Type 0
VerifiesPlainly start i o status = Tells (SaysFrom start i) o status ⊎ TellsRefusal o status
