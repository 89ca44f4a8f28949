-- What is said of open slots that are closed.
use Rattle.std.specs.Prelude.{◌≡◌, ◌≢◌, ◌⊎◌, ℕ, List, [], Option, None, Some, Ok, codes, length}
use Rattle.byte_streams.specs.Streams.{Output}
use Rattle.cluster_admin.specs.Surveys.{Survey}
use Rattle.command_words.specs.declared.usage.ResumeWords.{ResumeWords}
use Rattle.plan_language.specs.PlanView.{PlanView}
use Rattle.plan_language.specs.Texts.{any_plan_of_text}
use Rattle.plan_language.specs.declared.line.Line.{Line}
use Rattle.cluster_inspection.specs.Naming.{named}
use Rattle.plan_runner.specs.Verifying.{IsVerified, commands_of}
use Rattle.cluster_survey.specs.Found.{IsFound}
use Rattle.server_commands.specs.declared.book.Server.{Server}
use Rattle.server_phases.specs.Opened.{IsOpened}
use Rattle.server_phases.specs.Resumed.{IsResumed}
use Rattle.transcripts.specs.OutcomeTexts.{verified_text}
use Rattle.cluster_runs.specs.Applying.{Runs}
use Rattle.cluster_inspection.specs.Refusals.{TellsRefusal}
use Rattle.cluster_inspection.specs.Starts.{IsNumberedBy, names_listed}
use Rattle.cluster_inspection.specs.Stranded.{SaysSomeStranded}
use Rattle.cluster_runs.specs.Looking.{LooksFurther}

-- the lines are those of a plan of the file that is named, or none where no file is
abbrev pub AreLinesOf : {A : Type 0} → (file : Option A) → PlanView → Type 0
AreLinesOf None lines = lines ≡ record { version = 1; names = None; lines = [] }
AreLinesOf (Some path) lines = (text : List ℕ) × (any_plan_of_text text ≡ Ok lines)

-- what is said of lines that may move a slot more than once: the version that a plan with or without names has else
abbrev pub moved_again_text : {A : Type 0} → (names : Option A) → List ℕ
moved_again_text None = codes "only a plan of version 1, which moves each slot once, can be continued"
moved_again_text (Some names) = codes "only a plan of version 4, which moves each slot once, can be continued"

-- this is how the model sees a cluster of these servers that was found, with its open slots
abbrev pub Stands : List Server → Survey → Type 0
Stands b v = (shown : Survey) × (epochs : List ℕ) × (links : ℕ) × IsFound b shown epochs links × IsOpened shown v

-- the plan closes the open slots by so many keys at a time, and makes the moves that are left of these lines; where it
-- lists nodes, it has the names of their servers
abbrev pub IsNamedRest : List Server → Survey → (batch : ℕ) → List Line → PlanView → Type 0
IsNamedRest b v batch lines plan = (p : PlanView) × IsResumed v batch lines p × (plan ≡ named b p)

-- so it is of such a cluster, whose nodes are numbered by the names of these lines
abbrev pub IsLeft : (batch : ℕ) → (lines : PlanView) → Survey → PlanView → Type 0
IsLeft batch lines v plan = (b : List Server) × Stands b v × IsNumberedBy (names_listed lines) b
    × IsNamedRest b v batch lines.lines plan

-- such a plan is legal over the survey, and this says how many commands it stands for
abbrev pub IsOpenCount : (batch : ℕ) → (lines : PlanView) → (text : List ℕ) → Type 0
IsOpenCount batch lines text = (v : Survey) × (plan : PlanView) × IsLeft batch lines v plan × IsVerified plan v
    × (text ≡ verified_text (length (commands_of plan v)))

-- such a plan has no command
abbrev pub IsNothingLeft : (batch : ℕ) → (lines : PlanView) → Type 0
IsNothingLeft batch lines = (v : Survey) × (plan : PlanView) × IsLeft batch lines v plan × (plan.lines ≡ [])

-- what closes the open slots ran
abbrev pub RunsRests : {W : Type 0} → ResumeWords → Output W → (status : ℕ) → Type 0
RunsRests g o status = (lines : PlanView) × (count : List ℕ) × AreLinesOf g.run.plan lines
    × IsOpenCount g.batch lines count × Runs count o status

-- there was nothing to do, and this is told
abbrev pub TellsClean : {W : Type 0} → ResumeWords → Output W → (status : ℕ) → Type 0
TellsClean g o status = ((lines : PlanView) × AreLinesOf g.run.plan lines × IsNothingLeft g.batch lines)
    × (((status ≡ 0) × o.took o.before (codes "clean, nothing to resume\n") o.after
    × (o.failures o.after ≡ o.failures o.before))
    ⊎ ((status ≡ 1) × (o.failures o.after ≢ o.failures o.before)))

-- a plan ran, there was nothing to do, or why none ran is told
abbrev pub GoesOn : {W : Type 0} → ResumeWords → Output W → (status : ℕ) → Type 0
GoesOn g o status = RunsRests g o status ⊎ (TellsClean g o status ⊎ TellsRefusal o status)

-- after that keys are looked for that nobody finds
abbrev pub Resumes : {W : Type 0} → ResumeWords → Output W → (status : ℕ) → Type 0
Resumes {W} g o status = (mid : W) × (before : ℕ) × GoesOn g (record o { after = mid }) before
    × LooksFurther SaysSomeStranded g.run.plan before (record o { before = mid }) status
