-- Keys that no client reaches are looked for after a survey.
use Rattle.std.specs.Prelude.{◌≡◌, ◌≢◌, ◌⊎◌, ℕ, Bool, true, false}
use Rattle.byte_streams.specs.Streams.{Output}
use Rattle.command_words.specs.declared.usage.SurveyWords.{SurveyWords}
use Rattle.cluster_inspection.specs.Answers.{Answers, Tells}

-- Where they are asked for and all was clean, they are told as `says` has it. Else nothing more is said.
abbrev pub LooksIfClean : {W : Type 0} → (says : Answers) → (asked : Bool) → (before : ℕ) → Output W → (status : ℕ)
    → Type 0
LooksIfClean says true before o status = ((before ≡ 0) × Tells says o status)
    ⊎ ((before ≢ 0) × (status ≡ before) × (o.after ≡ o.before))
LooksIfClean says false before o status = (status ≡ before) × (o.after ≡ o.before)

-- a survey is told, and then such keys, if the words ask for them
abbrev pub Surveys : {W : Type 0} → (survey stranded : Answers) → SurveyWords → Output W → (status : ℕ) → Type 0
Surveys {W} survey stranded g o status = (mid : W) × (before : ℕ) × Tells survey (record o { after = mid }) before
    × LooksIfClean stranded g.stranded before (record o { before = mid }) status
