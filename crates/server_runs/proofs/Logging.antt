-- What is written to a log.
use Rattle.std.proofs.Common.{◌≡◌, ◌≤◌, ℕ, List, [], ◌++◌, length, Option, None, Some, Result, Ok, Err, refl, sym, subst, inl, inr, arith}
use Rattle.std.specs.Prelude.{IfOk, true, take}
use Rattle.transcripts.specs.RunTexts.{time_text}
use Rattle.transcripts.specs.declared.transcript.Transcript.{Transcript}
use Rattle.server_runs.specs.RunLogs.{IsTimed, IsWritten, Logs}
use Rattle.server_runs.specs.declared.run_log.RunLog.{RunLog}

pub logs_line : {L E : Type 0} (took : L → List ℕ → L → Type 0) (text : List ℕ) (before : Option (RunLog L)) (log next : RunLog L)
    (made : Result Transcript E) (t : Transcript) → before ≡ Some log → made ≡ Ok t
    → IfOk made (λ (x : Transcript). IsTimed text x.printed.items) → IsWritten took t.printed.items log next
    → Logs took text before (Some next)
logs_line {L} {E} took text before log next made t is ok timed wrote =
    let time : IsTimed text t.printed.items =
    subst (λ (r : Result Transcript E). IfOk r (λ (x : Transcript). IsTimed text x.printed.items)) ok timed in
    subst (λ (b : Option (RunLog L)). Logs took text b (Some next)) (sym is) (next, t.printed.items, refl, time, wrote)

-- there was no memory for the line
pub logs_nothing : {L : Type 0} (took : L → List ℕ → L → Type 0) (none : (x : L) → took x [] x) (text : List ℕ) (before : Option (RunLog L))
    (log next : RunLog L) → before ≡ Some log → next.is_broken ≡ true → next.writer ≡ log.writer
    → Logs took text before (Some next)
logs_nothing {L} took none text before log next is broken same =
    let line : List ℕ = time_text [] ++ text in
    subst (λ (b : Option (RunLog L)). Logs took text b (Some next)) (sym is)
    (next, line, refl, ([], refl), inr (inr (broken, (0, omega (arith), subst (λ (w : L). took log.writer [] w) (sym same) (none log.writer)))))
