-- The plan that closes all open slots, and moves what earlier lines have not moved yet.
use Rattle.std.specs.Prelude.{◌≡◌, ◌⊎◌, ◌==◌, Bool, false, true, cond, ℕ, zero, suc, ◌+◌, ◌-◌, ◌*◌, ◌<◌, ◌≤◌}
use Rattle.std.specs.Prelude.{List, [], ◌∷◌, ◌++◌, Option, length}
use Rattle.std.specs.List.{flat_map}
use Rattle.cluster_admin.specs.Phases.{Phase, Phases}
use Rattle.cluster_admin.specs.Phases as phase
use Rattle.cluster_admin.specs.Surveys.{Survey, IsOpenSurvey}
use Rattle.node_names.specs.Names.{Names}
use Rattle.plan_language.specs.Limits.{limits_of}
use Rattle.plan_language.specs.Lines.{count, others, plan_commands}
use Rattle.plan_language.specs.Moves.{move_of}
use Rattle.plan_language.specs.PlanView.{PlanView}
use Rattle.plan_language.specs.declared.line.Line.{Line}
use Rattle.plan_language.specs.declared.line.Line.TheVariants as line
use Rattle.plan_language.specs.declared.plan_command.PlanCommand.{PlanCommand}
use Rattle.plan_semantics.specs.Surveyed.{Shows, node_count}
use Rattle.reshard_planner.specs.Blank.{names_for}
use Rattle.reshard_planner.specs.Resuming.{IsStrange, rests_below}
use Rattle.server_phases.specs.ToldFirst.{told_first}
use Rattle.server_phases.specs.declared.resume_fault.ResumeFault.{ResumeFault}
use Rattle.server_phases.specs.declared.resume_fault.ResumeFault.TheVariants as fault

-- ---- slots that are still to be moved

-- the move of one slot
pub record SlotMove : Type 0 where
  pub slot : ℕ
  pub source : ℕ
  pub target : ℕ
  pub batch : ℕ

abbrev pub slot_move : (slot source target batch : ℕ) → SlotMove
slot_move k s t b = record { slot = k; source = s; target = t; batch = b }

-- its commands in a cluster of n nodes
abbrev pub commands_of : (n : ℕ) → List SlotMove → List PlanCommand
commands_of n moves = flat_map (λ m. move_of m.slot m.source m.target m.batch (others n m.source m.target)) moves

-- the slot is closed at the node, or will be once its target has taken its mark back
abbrev pub stays_at : Phase → (node : ℕ) → Bool
stays_at (phase.Closed o) n = o == n
stays_at (phase.Importing a b) n = a == n
stays_at p n = false

-- the moves of those of so many slots, from the first on, that are still at the source
abbrev pub still : Phases → (first count source target batch : ℕ) → List SlotMove
still phases k zero s t b = []
still phases k (suc i) s t b =
    cond (stays_at (phases k) s) (slot_move k s t b ∷ still phases (suc k) i s t b) (still phases (suc k) i s t b)

-- the moves of so many slots from the first on
abbrev pub run : (first count source target batch : ℕ) → List SlotMove
run k zero s t b = []
run k (suc i) s t b = slot_move k s t b ∷ run (suc k) i s t b

-- those of a line
abbrev pub still_of : Phases → Line → List SlotMove
still_of phases (line.Command c) = []
still_of phases (line.Move first last s t b) = still phases first (last + 1 - first) s t b

-- and of all lines
abbrev pub still_left : Phases → List Line → List SlotMove
still_left phases [] = []
still_left phases (l ∷ lines) = still_of phases l ++ still_left phases lines

abbrev pub IsCommand : Line → Type 0
IsCommand (line.Command c) = Unit {0}
IsCommand (line.Move first last s t b) = ⊥

-- some line is no move
abbrev pub HasCommand : List Line → Type 0
HasCommand [] = ⊥
HasCommand (line.Command c ∷ lines) = Unit {0}
HasCommand (line.Move first last s t b ∷ lines) = HasCommand lines

-- the line is a move with a node that is not below this
abbrev pub IsBeyond : (width : ℕ) → Line → Type 0
IsBeyond width (line.Command c) = ⊥
IsBeyond width (line.Move first last s t b) = (width ≤ s) ⊎ (width ≤ t)

-- some line is
abbrev pub HasBeyond : (width : ℕ) → List Line → Type 0
HasBeyond width [] = ⊥
HasBeyond width (l ∷ lines) = IsBeyond width l ⊎ HasBeyond width lines

-- ---- the plan

-- how many commands the moves of so many slots count as, in a plan that has these names or none
unfoldable pub moves_count : Option Names → (slots : ℕ) → ℕ
moves_count names slots = ((limits_of names).nodes + 3) * slots

-- how many commands a plan counts as
abbrev pub plan_count : Option Names → List Line → ℕ
plan_count names lines = count (limits_of names) lines

-- moves were put at the end of a plan
pub record AddsMoves (n : ℕ) (old new : PlanView) (moves : List SlotMove) : Type 0 where
  pub version : new.version ≡ old.version
  pub names : new.names ≡ old.names
  pub commands : plan_commands n new.lines ≡ plan_commands n old.lines ++ commands_of n moves
  pub counted : plan_count old.names new.lines
      ≡ plan_count old.names old.lines + moves_count old.names (length moves)

-- there is no room for so many commands in a plan that has these names or none, which may count as so many at most
abbrev pub IsTooLong : Option Names → (commands most : ℕ) → Type 0
IsTooLong names commands most = (most ≡ (limits_of names).commands) × (most < commands)

-- why they were not
abbrev pub IsUnmoved : PlanView → List SlotMove → ResumeFault → Type 0
IsUnmoved old moves fault.Memory = Unit {0}
IsUnmoved old moves (fault.TooLong most) =
    IsTooLong old.names (plan_count old.names old.lines + moves_count old.names (length moves)) most
IsUnmoved old moves other = ⊥

-- the rests of all slots, those first whose target was told
abbrev pub rests : Survey → (batch : ℕ) → Phases → List Line
rests survey b phases = told_first survey (rests_below (node_count survey) b phases 16384)

-- the names of a plan for the survey's nodes: none, or no name yet
abbrev pub names_over : Survey → Option Names
names_over survey = names_for (node_count survey)

-- A plan of the rules of version 3: the rests, and after them the move of each slot that is still where its line moves
-- it from
pub record IsResumed (survey : Survey) (batch : ℕ) (moves : List Line) (plan : PlanView) : Type 0 where
  pub version : plan.version ≡ 3
  pub names : plan.names ≡ names_over survey
  pub open_slots : IsOpenSurvey survey
  pub commands : (phases : Phases) → Shows survey phases → plan_commands (node_count survey) plan.lines
      ≡ plan_commands (node_count survey) (rests survey batch phases)
      ++ commands_of (node_count survey) (still_left phases moves)

-- some slot has no phase; some line is no move, or has a node that such a plan can't have; the rests and the moves
-- count as too many commands; or out of memory
abbrev pub IsNotResumed : Survey → (batch : ℕ) → List Line → ResumeFault → Type 0
IsNotResumed survey b moves fault.Memory = Unit {0}
IsNotResumed survey b moves fault.Strange = (slot : ℕ) × IsStrange survey slot
IsNotResumed survey b moves fault.NoMove = HasCommand moves
IsNotResumed survey b moves fault.Beyond = HasBeyond (limits_of (names_over survey)).nodes moves
IsNotResumed survey b moves (fault.TooLong most) = (phases : Phases) → Shows survey phases
    → IsTooLong (names_over survey) (plan_count (names_over survey) (rests survey b phases)
    + moves_count (names_over survey) (length (still_left phases moves))) most

-- the rests alone
pub record AreRests (survey : Survey) (batch : ℕ) (plan : PlanView) : Type 0 where
  pub open_slots : IsOpenSurvey survey
  pub version : plan.version ≡ 3
  pub names : plan.names ≡ names_over survey
  pub lines : (phases : Phases) → Shows survey phases → plan.lines ≡ rests survey batch phases

abbrev pub AreNoRests : Survey → ResumeFault → Type 0
AreNoRests survey fault.Memory = Unit {0}
AreNoRests survey fault.Strange = (slot : ℕ) × IsStrange survey slot
AreNoRests survey other = ⊥

-- what is put of lines whose moves are these, or why not
abbrev pub IsLineFault : PlanView → List SlotMove → (no_move beyond : Type 0) → ResumeFault → Type 0
IsLineFault old moves no_move beyond fault.Memory = Unit {0}
IsLineFault old moves no_move beyond (fault.TooLong most) = IsUnmoved old moves (fault.TooLong most)
IsLineFault old moves no_move beyond fault.NoMove = no_move
IsLineFault old moves no_move beyond fault.Beyond = beyond
IsLineFault old moves no_move beyond fault.Strange = ⊥

-- the slots from the one to the other are still at the source
abbrev pub AreStill : Survey → (source from last : ℕ) → Type 0
AreStill survey s from last = (phases : Phases) → Shows survey phases
    → (k : ℕ) → from < k + 1 → k < last + 1 → stays_at (phases k) s ≡ true
