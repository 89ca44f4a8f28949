-- What is told of slots of which masters were notified before all of them had heard of the new owner.
use Rattle.std.specs.Prelude.{◌≡◌, ◌⊎◌, ℕ, zero, suc, List, ◌++◌, Option, codes, decimal}
use Rattle.server_runs.specs.RunLogs.{Logs}
use Rattle.server_runs.specs.declared.run_log.RunLog.{RunLog}

abbrev pub unheard_text : (slots : ℕ) → List ℕ
unheard_text k = decimal k
    ++ codes " slots: masters were notified of the new owner before all of them had heard of it\n"

-- such a line stands in the log, where there are any such slots
abbrev pub LogsUnheard : {L : Type 0} → (took : L → List ℕ → L → Type 0) → (slots : ℕ) → Option (RunLog L)
    → Option (RunLog L) → Type 0
LogsUnheard took zero log log' = log' ≡ log
LogsUnheard took (suc k) log log' = Logs took (unheard_text (suc k)) log log'

-- the operator is told it, too, or there is no memory for it
abbrev pub TellsUnheard : {S : Type 0} → (notes : S → List ℕ → S → Type 0) → (slots : ℕ) → S → S → Type 0
TellsUnheard notes zero s last = last ≡ s
TellsUnheard {S} notes (suc k) s last = ((next : S) × notes s (unheard_text (suc k)) next) ⊎ (last ≡ s)
