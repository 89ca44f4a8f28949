-- How many slots stand open at the same time.
use Rattle.std.specs.Prelude.{◌≡◌, ℕ, ◌+◌, ◌-◌, ◌≤◌, ◌==◌, not, Bool, true, false, List, [], ◌∷◌, count_by, filter}
use Rattle.std.specs.Prelude.{fold}
use Rattle.std.specs.Prelude.{length, replicate, slice_index, slice_set, take}
use Rattle.cluster_admin.specs.Phases.{closed_by, Phase}
use Rattle.cluster_admin.specs.Phases as phase
use Rattle.plan_language.specs.Lines.{others}
use Rattle.plan_language.specs.declared.plan_command.PlanCommand.{PlanCommand}
use Rattle.plan_language.specs.declared.plan_command.PlanCommand.TheVariants as planned
use Rattle.plan_semantics.specs.Plans.{Legal, final_owner, first_owner, part, slot_named}
use Rattle.plan_changes.specs.Runs.{marks_of}

-- ---- the phases in which slots stand between the commands of a plan

-- the source was told the new owner, and these others are left to be told: where there are none, the slot is closed
abbrev pub told_but : (source target : ℕ) (left : List ℕ) → Phase
told_but o t [] = phase.Closed t
told_but o t (m ∷ left) = phase.SourceTold o t (m ∷ left)

-- what SETSLOT NODE at the node makes of a slot's phase: the target is told first, then the source, then the others
abbrev pub phase_told : (n at : ℕ) → Phase → Phase
phase_told n at (phase.Closed o) = phase.Closed o
phase_told n at (phase.Importing o t) = phase.Importing o t
phase_told n at (phase.Migrating o t) = phase.TargetTold o t
phase_told n at (phase.TargetTold o t) = told_but o t (others n o t)
phase_told n at (phase.SourceTold o t left) = told_but o t (filter (λ m. not (m == at)) left)

-- the phase of a slot after a command that names it, among n nodes
abbrev pub phase_after : (n : ℕ) → Phase → PlanCommand → Phase
phase_after n p (planned.Importing s o t) = phase.Importing o t
phase_after n p (planned.Migrating s t o) = phase.Migrating o t
phase_after n p (planned.Drain s o t b) = p
phase_after n p (planned.SetNode s t at) = phase_told n at p
phase_after n p (planned.Stable s at) = phase.Closed (first_owner p)

-- the phase of a slot after these commands, where all slots were closed before them
abbrev pub phase_behind : (n : ℕ) → List PlanCommand → (owners : List ℕ) → (slot : ℕ) → Phase
phase_behind n plan owners s = fold (phase_after n) (closed_by owners s) (part plan s)

-- a legal plan leaves each slot closed, at its owner in the end
abbrev pub LegalPlansClose : Type 0
LegalPlansClose = (version n : ℕ) (plan : List PlanCommand) (owners : List ℕ)
    → Legal version plan (closed_by owners) n
    → (s : ℕ) → phase_behind n plan owners s ≡ phase.Closed (final_owner plan (closed_by owners) s)

-- ---- how many are open

-- in each phase but the closed one
abbrev pub is_open : Phase → Bool
is_open (phase.Closed o) = false
is_open p = true

-- how many slots are open after the first commands of the plan, so many
abbrev pub open_at : (n : ℕ) → List PlanCommand → (owners : List ℕ) → (place : ℕ) → ℕ
open_at n plan owners place =
    count_by (λ mark. mark) (marks_of (λ s. is_open (phase_behind n (take place plan) owners s)))

-- the count is so great at some place up to the end, and no greater at any
abbrev pub IsMost : (count : ℕ → ℕ) → (end most : ℕ) → Type 0
IsMost count end most =
    ((place : ℕ) → place ≤ end → count place ≤ most) × ((place : ℕ) × (place ≤ end) × (most ≡ count place))

-- so many slots are open at the same time, at most
abbrev pub IsMostOpen : (n : ℕ) → List PlanCommand → (owners : List ℕ) → (most : ℕ) → Type 0
IsMostOpen n plan owners most = IsMost (open_at n plan owners) (length plan) most

-- ---- the same number, counted down

-- How many commands of a slot's leg are left after the command, where so many were left before it, among n nodes.
-- After its importing command a move has a migrating command, a drain, and SETSLOT NODE at each node.
abbrev pub left_after : (n left : ℕ) → PlanCommand → ℕ
left_after n k (planned.Importing s m at) = n + 2
left_after n k (planned.Stable s at) = 0
left_after n k c = k - 1

-- for each slot
abbrev pub lefts_after : (n : ℕ) → List ℕ → PlanCommand → List ℕ
lefts_after n lefts c = slice_set lefts (slot_named c) (left_after n (slice_index lefts (slot_named c)) c)

unfoldable pub no_lefts : List ℕ
no_lefts = replicate 16384 0

-- how many commands of its leg each slot has left, after these commands
abbrev pub lefts_of : (n : ℕ) → List PlanCommand → List ℕ
lefts_of n plan = fold (lefts_after n) no_lefts plan

-- slots with commands left
abbrev pub open_in : List ℕ → ℕ
open_in lefts = count_by (λ k. not (k == 0)) lefts

-- after this many commands
abbrev pub counted_at : (n : ℕ) → List PlanCommand → (place : ℕ) → ℕ
counted_at n plan place = open_in (lefts_of n (take place plan))

abbrev pub IsMostCounted : (n : ℕ) → List PlanCommand → (most : ℕ) → Type 0
IsMostCounted n plan most = IsMost (counted_at n plan) (length plan) most

-- in a legal plan slots have commands left exactly while they are open
abbrev pub OpenAreCounted : Type 0
OpenAreCounted = (version n : ℕ) (plan : List PlanCommand) (owners : List ℕ)
    → Legal version plan (closed_by owners) n → (place : ℕ) → counted_at n plan place ≡ open_at n plan owners place
