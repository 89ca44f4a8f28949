-- What is said of a run at its end.
use Rattle.std.specs.Prelude.{◌≡◌, ◌⊎◌, ℕ, List, ◌++◌, cond, ◌==◌, codes, decimal}
use Rattle.plan_runner.specs.Faults.{arm_fault_text}
use Rattle.plan_runner.specs.declared.armed.ArmFault.TheVariants.{TableChanged}
use Rattle.transcripts.specs.OutcomeTexts.{done_text, refused_text}
use Rattle.transcripts.specs.RunTexts.{paused_text, stopped_by_text}

-- a plan is done, paused, stopped or was not armed
abbrev pub IsPlainEnd : (status : ℕ) → (text : List ℕ) → Type 0
IsPlainEnd status text = ((status ≡ 0) × ((n : ℕ) × (text ≡ done_text n)))
    ⊎ (((status ≡ 3) × ((n : ℕ) × (text ≡ paused_text n)))
    ⊎ ((status ≡ 1) × (((n : ℕ) × (reason : List ℕ) × (text ≡ stopped_by_text n reason))
    ⊎ (text ≡ refused_text (arm_fault_text TableChanged)))))

-- ---- where the log could not be written

-- a plan was given up for that, after so many commands
abbrev pub stopped_unlogged_text : (commands : ℕ) → List ℕ
stopped_unlogged_text n =
    codes "stopped after " ++ decimal n ++ codes " commands, no slot is open: the log could not be written\n"

-- or it ended otherwise, which is told
abbrev pub ended_unlogged_text : (text : List ℕ) → List ℕ
ended_unlogged_text text = text ++ codes "the log could not be written to its end\n"

-- in the place of what would be said
abbrev pub unlogged_text : (status commands : ℕ) → (text : List ℕ) → List ℕ
unlogged_text status n text = cond (status == 3) (stopped_unlogged_text n) (ended_unlogged_text text)

-- ---- either

abbrev pub IsEnd : (status : ℕ) → (text : List ℕ) → Type 0
IsEnd status text = IsPlainEnd status text
    ⊎ ((status ≡ 1) × ((s : ℕ) × (n : ℕ) × (t : List ℕ) × IsPlainEnd s t × (text ≡ unlogged_text s n t)))
