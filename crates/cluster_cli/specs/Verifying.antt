-- What is said of a plan that is verified, and what of that is written.
use Rattle.std.specs.Prelude.{◌≡◌, ◌≢◌, ◌⊎◌, ℕ, List, codes, take, Ok, Err}
use Rattle.key_slots.specs.Owners.{IsEvenSplit, Owners}
use Rattle.plan_language.specs.Faults.{parse_fault_text}
use Rattle.plan_language.specs.Texts.{Parsed, plan_of_text}
use Rattle.transcripts.specs.OutcomeTexts.{refused_text}
use Rattle.transcripts.specs.PlanVerdicts.{SaysOfPlan}
use Rattle.transcripts.specs.Writing.{Writes}
use Rattle.byte_streams.specs.Inputs.{IsWholeInput}
use Rattle.byte_streams.specs.Streams.{Input, Output}
use Rattle.command_words.specs.CommandLine.{EndsLine}
use Rattle.command_words.specs.declared.sizes.Sizes.{Sizes}

-- ---- what is said of a plan, and the status of that

-- of a text that is no plan, the fault is said
abbrev pub Says : Owners → Parsed → (status : ℕ) → (text : List ℕ) → Type 0
Says o (Ok plan) status text = SaysOfPlan o plan status text
Says o (Err f) status text = (status ≡ 1) × (text ≡ refused_text (parse_fault_text f))

-- of a text, by the even split of these sizes
abbrev pub IsAnswer : Sizes → (input : List ℕ) → (status : ℕ) → (text : List ℕ) → Type 0
IsAnswer s input status text = (o : Owners) × IsEvenSplit s.nodes s.owning o × Says o (plan_of_text input) status text

-- ---- what is read and written

-- all of the input was read, and what there is to say of it was written
abbrev pub IsAnswered : {R W : Type 0} → Input R → Output W → Sizes → (status : ℕ) → Type 0
IsAnswered i o s status = (input text : List ℕ) × IsWholeInput i.gave i.ends i.before i.after input
    × IsAnswer s input status text × o.took o.before text o.after

-- a write failed, and only a prefix of what there is to say was written
abbrev pub IsCutOff : {R W : Type 0} → Input R → Output W → Sizes → Type 0
IsCutOff i o s = (input text : List ℕ) × (status : ℕ) × IsWholeInput i.gave i.ends i.before i.after input
    × IsAnswer s input status text × ((n : ℕ) × o.took o.before (take n text) o.after)
    × (o.failures o.after ≢ o.failures o.before)

-- a read failed, or there were as many reads as there may be, and nothing was written; or memory ran out
abbrev pub HasNoAnswer : {R W : Type 0} → Input R → Output W → Type 0
HasNoAnswer i o = ((n : ℕ) × (input : List ℕ) × i.gave i.before n input i.after)
    × (((o.after ≡ o.before) × ((i.failures i.after ≢ i.failures i.before)
    ⊎ ((input : List ℕ) × i.gave i.before 9223372036854775807 input i.after)))
    ⊎ Writes o.took o.failures (codes "out of memory\n") o.before o.after)

-- the plan is refused, or what there is to say was not written whole, or there was nothing to say
abbrev pub IsNotVerified : {R W : Type 0} → Input R → Output W → Sizes → Type 0
IsNotVerified i o s = IsAnswered i o s 1 ⊎ (IsCutOff i o s ⊎ HasNoAnswer i o)

-- ---- what is written of any command

-- the writer took whole lines
abbrev pub WritesLines : {W : Type 0} → (took : W → List ℕ → W → Type 0) → W → W → Type 0
WritesLines took old new = (text : List ℕ) × EndsLine text × took old text new
