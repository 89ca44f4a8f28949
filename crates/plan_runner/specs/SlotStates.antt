-- How far the move of a slot has come by the commands that name the slot, or which of them is at fault.
use Rattle.std.specs.Prelude.{ℕ, zero, suc, Bool, true, false, cond, not, ◌&&◌, ◌==◌, nat_lt, List, [], ◌∷◌}
use Rattle.std.specs.Prelude.{Result, Ok, Err}
use Rattle.std.specs.Prelude.{replicate, slice_index_or, slice_set}
use Rattle.plan_language.specs.declared.plan_command.PlanCommand.{PlanCommand}
use Rattle.plan_language.specs.declared.plan_command.PlanCommand.TheVariants as planned
use Rattle.cluster_admin.specs.Phases.{Phase, Phases, among}
use Rattle.cluster_admin.specs.Phases as phase
use Rattle.plan_semantics.specs.Plans.{part}
use Rattle.plan_runner.specs.declared.command_fault.CommandFault.{CommandFault}
use Rattle.plan_runner.specs.declared.command_fault.CommandFault.TheVariants as fault
use Rattle.plan_runner.specs.declared.slot_state.SlotState.{SlotState}
use Rattle.plan_runner.specs.declared.slot_state.SlotState.TheVariants as state

-- what nodes are told stands in a list as wide as the most nodes that there can be
abbrev pub State : Type 0
State = SlotState (List Bool)

-- a node that is told the new owner stands as `true` at its number
abbrev pub none_told : List Bool
none_told = replicate 255 false

unfoldable pub all_told : (n : ℕ) → List Bool → Bool
all_told zero told = true
all_told (suc n) told = all_told n told && slice_index_or told n false

-- a slot that was moved to the node: in version 1 it does not move again, and in the others nothing was done yet
abbrev pub moved_to : (version target : ℕ) → State
moved_to v t = cond (v == 1) state.Moved (state.Untouched t)

-- once the source was told: moved, where all n nodes are told
abbrev pub told_so_far : (version n source target : ℕ) → List Bool → State
told_so_far v n s t told = cond (all_told n told) (moved_to v t) (state.SourceTold s t told)

abbrev pub told_both : (source target : ℕ) → List Bool
told_both s t = slice_set (slice_set none_told t true) s true

-- all of n nodes but these
unfoldable pub told_but : (n : ℕ) → List ℕ → List Bool
told_but zero left = none_told
told_but (suc n) left = cond (among n left) (told_but n left) (slice_set (told_but n left) n true)

-- the state of a slot in this phase among n nodes, before the first command
abbrev pub first_state : (n : ℕ) → Phase → State
first_state n (phase.Closed o) = state.Untouched o
first_state n (phase.Importing s t) = state.Importing s t
first_state n (phase.Migrating s t) = state.Migrating s t
first_state n (phase.TargetTold s t) = state.TargetTold s t
first_state n (phase.SourceTold s t left) = state.SourceTold s t (told_but n left)

-- every node that the command names is one of n
abbrev pub is_known : (n : ℕ) → PlanCommand → Bool
is_known n (planned.Importing slot source at) = nat_lt source n && nat_lt at n
is_known n (planned.Migrating slot target at) = nat_lt target n && nat_lt at n
is_known n (planned.Drain slot source target batch) = nat_lt source n && nat_lt target n
is_known n (planned.SetNode slot owner at) = nat_lt owner n && nat_lt at n
is_known n (planned.Stable slot at) = nat_lt at n

abbrev pub Next : Type 0
Next = Result State CommandFault

-- a move begins at the owner of its slot
abbrev pub begins : (owner source target : ℕ) → Next
begins o s t = cond (s == t) (Err fault.SameNode) (cond (s == o) (Ok (state.Importing s t)) (Err fault.NotOwner))

-- the command continues, if its nodes are the right ones
abbrev pub goes_on : Bool → State → Next
goes_on right next = cond right (Ok next) (Err fault.WrongNode)

-- so does a `node` command, if it names the new owner, at a node whose turn it is
abbrev pub tells : (right in_turn : Bool) → State → Next
tells right in_turn next = cond right (cond in_turn (Ok next) (Err fault.OutOfOrder)) (Err fault.WrongNode)

-- The rows of the table: the command that continues from a state, and any other. `s` and `t` are the source and the
-- target that the importing command named
abbrev pub untouched : (owner : ℕ) → PlanCommand → Next
untouched o (planned.Importing slot s t) = begins o s t
untouched o command = Err fault.OutOfOrder

abbrev pub importing : (s t : ℕ) → PlanCommand → Next
importing s t (planned.Migrating slot to at) = goes_on (to == t && at == s) (state.Migrating s t)
importing s t (planned.Stable slot at) = cond (at == t) (Ok (state.Untouched s)) (Err fault.OutOfOrder)
importing s t command = Err fault.OutOfOrder

abbrev pub migrating : (s t : ℕ) → PlanCommand → Next
migrating s t (planned.Drain slot from to batch) = goes_on (from == s && to == t) (state.Drained s t)
migrating s t command = Err fault.OutOfOrder

abbrev pub drained : (s t : ℕ) → PlanCommand → Next
drained s t (planned.SetNode slot to at) = tells (to == t) (at == t) (state.TargetTold s t)
drained s t command = Err fault.OutOfOrder

abbrev pub target_told : (version n s t : ℕ) → PlanCommand → Next
target_told v n s t (planned.SetNode slot to at) = tells (to == t) (at == s) (told_so_far v n s t (told_both s t))
target_told v n s t command = Err fault.OutOfOrder

abbrev pub source_told : (version n s t : ℕ) → List Bool → PlanCommand → Next
source_told v n s t told (planned.SetNode slot to at) =
    tells (to == t) (not (slice_index_or told at false)) (told_so_far v n s t (slice_set told at true))
source_told v n s t told command = Err fault.OutOfOrder

-- what a command of known nodes makes of its slot's state, or its fault
unfoldable pub next_by_row : (version n : ℕ) → State → PlanCommand → Next
next_by_row v n (state.Untouched o) command = untouched o command
next_by_row v n (state.Importing s t) command = importing s t command
next_by_row v n (state.Migrating s t) command = migrating s t command
next_by_row v n (state.Drained s t) command = drained s t command
next_by_row v n (state.TargetTold s t) command = target_told v n s t command
next_by_row v n (state.SourceTold s t told) command = source_told v n s t told command
next_by_row v n state.Moved command = Err fault.MovedTwice

abbrev pub next_state : (version n : ℕ) → State → PlanCommand → Next
next_state v n state command = cond (is_known n command) (next_by_row v n state command) (Err fault.UnknownNode)

-- an answer continues to the next, and the first fault stays
abbrev pub and_then : {A B E : Type 0} → Result A E → (A → Result B E) → Result B E
and_then (Ok x) f = f x
and_then (Err e) f = Err e

-- the state of a slot after commands that name it
abbrev pub state_after : (version n : ℕ) → State → List PlanCommand → Next
state_after v n state [] = Ok state
state_after v n state (command ∷ commands) = and_then (next_state v n state command)
    (λ next. state_after v n next commands)

-- the state of a slot after the commands of a plan so far
abbrev pub state_of : (version n : ℕ) → Phases → (prefix : List PlanCommand) → (slot : ℕ) → Next
state_of v n phases prefix slot = state_after v n (first_state n (phases slot)) (part prefix slot)

-- a slot that is on its way, and not at its end
abbrev pub is_open : State → Bool
is_open (state.Untouched o) = false
is_open state.Moved = false
is_open state = true
