-- What the verifier keeps of the commands of a plan so far.
use Rattle.std.specs.Prelude.{◌≡◌, ℕ, ◌<◌, ◌≤◌, true, false, List, [], ◌++◌, length, Result, Ok, Err, MatchResult}
use Rattle.std.specs.Prelude.{Bool, ◌+◌, ◌∷◌, ◌||◌, slice_index_or, slice_set}
use Rattle.plan_language.specs.declared.plan_command.PlanCommand.{PlanCommand}
use Rattle.cluster_admin.specs.Phases.{Phase, Phases}
use Rattle.plan_semantics.specs.Plans.{slot_named, part}
use Rattle.plan_runner.specs.declared.plan_check.SlotProgress.{SlotProgress}
use Rattle.plan_runner.specs.declared.rules.Rules.{Rules}
use Rattle.plan_runner.specs.declared.slot_state.SlotState.TheVariants as state
use Rattle.plan_runner.specs.declared.verify_fault.CommandPlace.{CommandPlace}
use Rattle.plan_runner.specs.declared.verify_fault.VerifyFault.{VerifyFault}
use Rattle.plan_runner.specs.SlotStates.{Next, State, first_state, next_state, none_told, state_of, is_open}
use Rattle.plan_semantics.specs.Retargets.{importings, phase_target}
use Rattle.plan_runner.specs.Targets.{KnowsTargets, marked, comes_again}
use Rattle.plan_runner.specs.Verifying.{LastAt, IsRefused, fault_at}

abbrev pub SlotView : Type 0
SlotView = SlotProgress (List Bool)

-- the progress of each slot, how many commands there are, and whether a slot had one target twice
pub record CheckView : Type 0 where
  pub slots : List SlotView
  pub commands : ℕ
  pub retargets : Bool

abbrev pub at_first : SlotView
at_first = record { state = state.Moved; targets = none_told; last = 0 }

-- a slot of this phase among n nodes, before the first command
abbrev pub first_progress : (n : ℕ) → Phase → SlotView
first_progress n p = record { state = first_state n p; targets = marked none_told (phase_target p); last = 0 }

abbrev pub slot_at : List SlotView → ℕ → SlotView
slot_at slots s = slice_index_or slots s at_first

-- this is kept of these commands: each slot's state, its last command's number while it is open, and how many they are
pub record Stands (v n : ℕ) (phases : Phases) (prefix : List PlanCommand) (check : CheckView) : Type 0 where
  pub width : length check.slots ≡ 16384
  pub states : (s : ℕ) → s < 16384 → state_of v n phases prefix s ≡ Ok (slot_at check.slots s).state
  pub lasts : (s : ℕ) → s < 16384 → is_open (slot_at check.slots s).state ≡ true
      → LastAt prefix (record { slot = s; command = (slot_at check.slots s).last })
  -- only slots are named
  pub none_beyond : (s : ℕ) → 16384 ≤ s → part prefix s ≡ []
  pub count : check.commands ≡ length prefix
  pub targets : KnowsTargets phases prefix (λ s. (slot_at check.slots s).targets) check.retargets

-- One command more, or so many that begin with it and import nothing else, which leave its slot in this state
abbrev pub noted : CheckView → PlanCommand → State → (count : ℕ) → CheckView
noted check c q k = record {
  slots = slice_set check.slots (slot_named c) (record {
    state = q;
    targets = marked (slot_at check.slots (slot_named c)).targets (importings (c ∷ []));
    last = check.commands + k;
  });
  commands = check.commands + k;
  retargets = check.retargets || comes_again (slot_at check.slots (slot_named c)).targets (importings (c ∷ []));
}

-- what one more command makes of its slot, a fault with its place
abbrev pub next_of : (version n : ℕ) → CheckView → PlanCommand → Next
next_of v n check c = next_state v n (slot_at check.slots (slot_named c)).state c

abbrev pub placed : Next → CommandPlace → Result State VerifyFault
placed (Ok x) place = Ok x
placed (Err what) place = Err (fault_at what place)

-- more commands were taken, or the first of them at fault was found, whatever comes after them
abbrev pub Takes : {A : Type 0} → Rules → (more : List PlanCommand) → (old new : CheckView) → Result A VerifyFault
    → Type 0
Takes rules more old new result =
    (phases : Phases) (prefix : List PlanCommand) → Stands rules.version rules.nodes phases prefix old
    → MatchResult result (λ _. Stands rules.version rules.nodes phases (prefix ++ more) new)
    (λ f. (rest : List PlanCommand) → IsRefused rules.version rules.nodes phases (prefix ++ (more ++ rest)) f)

-- the lowest slot that is left open, with its last command
pub record IsLowestOpen (check : CheckView) (place : CommandPlace) : Type 0 where
  pub slot_below : place.slot < length check.slots
  pub open_still : is_open (slot_at check.slots place.slot).state ≡ true
  pub lower : (s : ℕ) → s < place.slot → is_open (slot_at check.slots s).state ≡ false
  pub last : place.command ≡ (slot_at check.slots place.slot).last
