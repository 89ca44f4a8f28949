-- What is written to a log.
use Rattle.std.specs.Prelude.{◌≡◌, ◌⊎◌, ◌≤◌, ℕ, true, false, List, ◌++◌, length, take, Option, None, Some}
use Rattle.transcripts.specs.RunTexts.{time_text}
use Rattle.server_runs.specs.declared.run_log.RunLog.{RunLog}

-- The line was written; or a prefix of it was, and the log is broken; or the log was broken, and is as it was.
abbrev pub IsWritten : {L : Type 0} → (took : L → List ℕ → L → Type 0) → (line : List ℕ) → RunLog L → RunLog L → Type 0
IsWritten took line log log' =
    ((log.is_broken ≡ true) × (log' ≡ log))
    ⊎ (((log.is_broken ≡ false) × (log'.is_broken ≡ false) × took log.writer line log'.writer)
    ⊎ ((log'.is_broken ≡ true)
    × ((n : ℕ) × (n ≤ length line) × took log.writer (take n line) log'.writer)))

-- the text, after the time
abbrev pub IsTimed : (text line : List ℕ) → Type 0
IsTimed text line = (time : List ℕ) × (line ≡ time_text time ++ text)

-- such a line is written, where there is a log
abbrev pub Logs : {L : Type 0} → (took : L → List ℕ → L → Type 0) → (text : List ℕ) → Option (RunLog L)
    → Option (RunLog L) → Type 0
Logs took text None log' = log' ≡ None
Logs {L} took text (Some log) log' =
    (next : RunLog L) × (line : List ℕ) × (log' ≡ Some next) × IsTimed text line × IsWritten took line log next

-- a line could not be written
abbrev pub HasBrokenLog : {L : Type 0} → Option (RunLog L) → Type 0
HasBrokenLog None = ⊥
HasBrokenLog (Some log) = log.is_broken ≡ true
