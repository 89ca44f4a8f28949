-- What is said of a plan that is carried out at a cluster of servers.
use Rattle.std.specs.Prelude.{◌≡◌, ◌≢◌, ◌≤◌, ◌⊎◌, ℕ, List, ◌++◌, Option, None, Some, Ok, codes}
use Rattle.byte_streams.specs.Inputs.{IsWholeInput}
use Rattle.byte_streams.specs.Streams.{Input, Output}
use Rattle.key_slots.specs.Owners.{Owners}
use Rattle.transcripts.specs.PlanVerdicts.{SaysCount}
use Rattle.plan_language.specs.PlanView.{PlanView}
use Rattle.plan_language.specs.Texts.{any_plan_of_text}
use Rattle.transcripts.specs.Writing.{Writes}
use Rattle.cluster_runs.specs.Ends.{IsEnd}
use Rattle.cluster_inspection.specs.Refusals.{TellsRefusal}
use Rattle.cluster_inspection.specs.Starts.{AreCleanOwners, names_listed}

-- the input is a plan that is legal by the owners which all servers of a clean cluster tell, numbered by its names, and
-- this says how many commands it stands for
abbrev pub IsCount : (input text : List ℕ) → Type 0
IsCount input text = (o : Owners) × (plan : PlanView) × AreCleanOwners (names_listed plan) o
    × (any_plan_of_text input ≡ Ok plan) × SaysCount o plan 0 text

-- an end, or memory ran out
abbrev pub IsClosing : (text : List ℕ) → Type 0
IsClosing text = ((status : ℕ) × IsEnd status text) ⊎ (text ≡ codes "out of memory\n")

-- After this count an end was written whole. Or the status is 1, and both were written, or a prefix of that.
abbrev pub Runs : {W : Type 0} → (count : List ℕ) → Output W → (status : ℕ) → Type 0
Runs count o status =
    ((end : List ℕ) × IsEnd status end × o.took o.before (count ++ end) o.after
    × (o.failures o.after ≡ o.failures o.before))
    ⊎ ((status ≡ 1) × ((end : List ℕ) × IsClosing end × Writes o.took o.failures (count ++ end) o.before o.after))

-- the plan's text is that of a file, where one is named, and nothing of the input is read; or else the whole input
abbrev pub IsPlanInput : {A R : Type 0} → (file : Option A) → Input R → (text : List ℕ) → Type 0
IsPlanInput None i text = IsWholeInput i.gave i.ends i.before i.after text
IsPlanInput (Some path) i text = i.after ≡ i.before

-- a plan that was read, and ran
abbrev pub RunsPlan : {A R W : Type 0} → (file : Option A) → Input R → Output W → (status : ℕ) → Type 0
RunsPlan file i o status = (input count : List ℕ) × IsPlanInput file i input × IsCount input count
    × Runs count o status

-- a plan ran, or why none did is told
abbrev pub Applies : {A R W : Type 0} → (file : Option A) → Input R → Output W → (status : ℕ) → Type 0
Applies file i o status = RunsPlan file i o status ⊎ TellsRefusal o status
