-- The plan that closes what stands open.
use Rattle.std.specs.Prelude.{◌≡◌, Bool, cond, ℕ, zero, suc, ◌-◌, ◌<◌, ◌⊎◌, List, [], ◌∷◌, ◌++◌, filter, map}
use Rattle.std.specs.Prelude.{Result, Ok, Err}
use Rattle.cluster_admin.specs.Phases.{Phase, Phases, among}
use Rattle.cluster_admin.specs.Phases as phase
use Rattle.cluster_admin.specs.Surveys.{Survey, HasPhaseIn, IsOpenSurvey}
use Rattle.plan_language.specs.Limits.{limits_of}
use Rattle.plan_language.specs.Lines.{count, numbers_from, others}
use Rattle.plan_language.specs.PlanView.{PlanView}
use Rattle.plan_language.specs.declared.line.Line.{Line}
use Rattle.plan_language.specs.declared.line.Line.TheVariants as line
use Rattle.plan_language.specs.declared.plan_command.PlanCommand.{PlanCommand}
use Rattle.plan_language.specs.declared.plan_command.PlanCommand.TheVariants as planned
use Rattle.plan_semantics.specs.Plans.{tell}
use Rattle.plan_semantics.specs.Surveyed.{Shows, node_count}
use Rattle.reshard_planner.specs.Blank.{plan_for}
use Rattle.reshard_planner.specs.declared.planner_fault.PlannerFault.{PlannerFault}
use Rattle.reshard_planner.specs.declared.planner_fault.PlannerFault.TheVariants.{Memory, StrangeMarks}

-- the nodes of the list among n, ascending
abbrev pub ascending : (n : ℕ) → List ℕ → List ℕ
ascending n left = filter (λ m. among m left) (numbers_from 0 n)

-- What closes a slot of this phase: a target that only imports takes its mark back, and any other move continues to its
-- end, the nodes that are still to be told ascending
abbrev pub rest_of : (n slot batch : ℕ) → Phase → List PlanCommand
rest_of n s b (phase.Closed o) = []
rest_of n s b (phase.Importing o t) = planned.Stable s t ∷ []
rest_of n s b (phase.Migrating o t) =
    planned.Drain s o t b ∷ planned.SetNode s t t ∷ planned.SetNode s t o ∷ tell s t (others n o t)
rest_of n s b (phase.TargetTold o t) = planned.SetNode s t o ∷ tell s t (others n o t)
rest_of n s b (phase.SourceTold o t left) = tell s t (ascending n left)

-- a line for each command
abbrev pub lines_for : List PlanCommand → List Line
lines_for commands = map (λ c. line.Command c) commands

-- the rests of so many slots, ascending
unfoldable pub rests_below : (n batch : ℕ) → Phases → (count : ℕ) → List Line
rests_below n b phases zero = []
rests_below n b phases (suc k) = rests_below n b phases k ++ lines_for (rest_of n k b (phases k))

-- of all slots, in a plan by the rules of version 3
abbrev pub resumed : (n batch : ℕ) → Phases → PlanView
resumed n b phases = plan_for 3 n (rests_below n b phases 16384)

-- the slot has no phase
abbrev pub IsStrange : Survey → (slot : ℕ) → Type 0
IsStrange survey s = (p : Phase) → HasPhaseIn survey s p → ⊥

-- the lowest slot without a phase
pub record IsLowestStrange (survey : Survey) (slot : ℕ) : Type 0 where
  pub strange : IsStrange survey slot
  pub lower : (s : ℕ) → s < slot → (p : Phase) × HasPhaseIn survey s p

-- these commands were put at the end of a plan
abbrev pub Adds : (old new : PlanView) → List PlanCommand → Type 0
Adds old new commands = new ≡ record old { lines = old.lines ++ lines_for commands }

-- the nodes that a plan may mention are those below this
abbrev pub width : PlanView → ℕ
width plan = (limits_of plan.names).nodes

-- as so many commands more a plan may count
abbrev pub room : PlanView → ℕ
room plan = (limits_of plan.names).commands - count (limits_of plan.names) plan.lines

-- the node is told the target, where it is to be told
abbrev pub told_if : (tells : Bool) → (slot target node : ℕ) → List PlanCommand
told_if tells s t m = cond tells (planned.SetNode s t m ∷ []) []

-- The plan of all rests, whatever phases the survey shows, where every slot has one; or the lowest slot without a
-- phase; or out of memory, where every slot has one
abbrev pub Resumes : Survey → (batch : ℕ) → Result PlanView PlannerFault → Type 0
Resumes survey b (Ok plan) =
    IsOpenSurvey survey × ((phases : Phases) → Shows survey phases → plan ≡ resumed (node_count survey) b phases)
Resumes survey b (Err f) =
    ((slot : ℕ) × (f ≡ StrangeMarks slot) × IsLowestStrange survey slot)
    ⊎ ((f ≡ Memory) × IsOpenSurvey survey)
