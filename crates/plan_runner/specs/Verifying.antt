-- Why a plan is refused: the first command at fault, or else the lowest slot that is left open.
use Rattle.std.specs.Prelude.{◌≡◌, ◌⊎◌, ℕ, ◌+◌, ◌<◌, true, List, [], ◌∷◌, ◌++◌, length, Ok, Err, Option, refl}
use Rattle.node_names.specs.Names.{Names}
use Rattle.plan_language.specs.Lines.{plan_commands}
use Rattle.plan_language.specs.declared.line.Line.{Line}
use Rattle.plan_language.specs.declared.plan_command.PlanCommand.{PlanCommand}
use Rattle.plan_runner.specs.declared.command_fault.CommandFault.{CommandFault}
use Rattle.plan_runner.specs.declared.command_fault.CommandFault.TheVariants as kind
use Rattle.plan_runner.specs.declared.verify_fault.CommandPlace.{CommandPlace}
use Rattle.plan_runner.specs.declared.verify_fault.VerifyFault.{VerifyFault}
use Rattle.plan_runner.specs.declared.verify_fault.VerifyFault.TheVariants as fault
use Rattle.plan_runner.specs.SlotStates.{State, state_of, is_open}
use Rattle.cluster_admin.specs.Phases.{Phases}
use Rattle.cluster_admin.specs.Surveys.{Survey, survey_code}
use Rattle.plan_semantics.specs.Surveyed.{Shows, node_count}
use Rattle.plan_semantics.specs.Retargets.{HasNoRetarget}
use Rattle.plan_language.specs.PlanView.{PlanView}
use Rattle.plan_language.specs.contracts.line.Line as line
use Rattle.std.specs.Coded.{Coded, code_by, coded×, coded_list, coded_option, coded_ℕ}
use Rattle.std.specs.Prelude.{Bool, false, ◌↔◌}
use Rattle.plan_semantics.specs.Plans.{slot_named, part, Legal}
use Rattle.plan_runner.specs.Sound.{AreSound}

-- the command of a plan at this place
pub record CommandAt (plan : List PlanCommand) (place : CommandPlace) : Type 0 where
  pub prefix : List PlanCommand
  pub command : PlanCommand
  pub rest : List PlanCommand
  pub is : plan ≡ prefix ++ command ∷ rest
  pub slot : place.slot ≡ slot_named command
  pub number : place.command ≡ length prefix + 1

-- the last command of a slot, or the number 0 where it has none
abbrev pub LastAt : (plan : List PlanCommand) → CommandPlace → Type 0
LastAt plan place = ((c : CommandAt plan place) × (part c.rest place.slot ≡ []))
    ⊎ ((part plan place.slot ≡ []) × (place.command ≡ 0))

-- no command is at fault: every slot has a state
abbrev pub IsFaultless : (version n : ℕ) → Phases → (plan : List PlanCommand) → Type 0
IsFaultless v n phases plan = (s : ℕ) → (x : State) × (state_of v n phases plan s ≡ Ok x)

abbrev pub IsOpen : (version n : ℕ) → Phases → (plan : List PlanCommand) → (slot : ℕ) → Type 0
IsOpen v n phases plan s = (x : State) × (state_of v n phases plan s ≡ Ok x) × (is_open x ≡ true)

-- the command at this place is the first at fault
abbrev pub IsAtFault : (version n : ℕ) → Phases → (plan : List PlanCommand) → CommandFault → CommandPlace → Type 0
IsAtFault v n phases plan what place = (c : CommandAt plan place)
    × IsFaultless v n phases c.prefix × (state_of v n phases (c.prefix ++ c.command ∷ []) place.slot ≡ Err what)

-- no command is at fault, and the lowest slot that is left open has its last command at this place
abbrev pub IsLeftOpen : (version n : ℕ) → Phases → (plan : List PlanCommand) → CommandPlace → Type 0
IsLeftOpen v n phases plan place = LastAt plan place
    × IsFaultless v n phases plan
    × IsOpen v n phases plan place.slot
    × ((s : ℕ) → s < place.slot → IsOpen v n phases plan s → ⊥)

abbrev pub fault_at : CommandFault → CommandPlace → VerifyFault
fault_at kind.UnknownNode place = fault.UnknownNode place
fault_at kind.NotOwner place = fault.NotOwner place
fault_at kind.SameNode place = fault.SameNode place
fault_at kind.OutOfOrder place = fault.OutOfOrder place
fault_at kind.WrongNode place = fault.WrongNode place
fault_at kind.MovedTwice place = fault.MovedTwice place

abbrev pub IsRefused : (version n : ℕ) → Phases → (plan : List PlanCommand) → VerifyFault → Type 0
IsRefused v n phases plan f =
    ((what : CommandFault) × (place : CommandPlace) × (f ≡ fault_at what place) × IsAtFault v n phases plan what place)
    ⊎ ((place : CommandPlace) × (f ≡ fault.LeftOpen place) × IsLeftOpen v n phases plan place)

-- out of memory, which says nothing of the plan; or the plan is not legal, for this reason
abbrev pub RefusedBy : (version n : ℕ) → Phases → (plan : List PlanCommand) → VerifyFault → Type 0
RefusedBy v n phases plan f = (f ≡ fault.Memory) ⊎ (IsRefused v n phases plan f × (Legal v plan phases n → ⊥))

-- a plan, and the survey for which it is legal
pub record Verified : Type 0 where
  pub plan : PlanView
  pub survey : Survey

abbrev names_code : Coded Names
names_code = coded_list (coded× coded_ℕ (coded_list coded_ℕ))

abbrev pub verified_code : Coded Verified
verified_code =
    code_by ((ℕ × (Option Names × List Line)) × Survey)
    (coded× (coded× coded_ℕ (coded× (coded_option names_code) (coded_list line.the_row.coded))) survey_code)
    (λ v. ((v.plan.version, (v.plan.names, v.plan.lines)), v.survey))
    (λ p. record { plan = record { version = p.0.0; names = p.0.1.0; lines = p.0.1.1 }; survey = p.1 }) (λ _. refl)

-- the commands of the plan among the nodes that were surveyed
abbrev pub commands_of : PlanView → Survey → List PlanCommand
commands_of plan survey = plan_commands (node_count survey) plan.lines

-- the plan is legal for the phases that the survey shows, and can be sent
pub record IsVerified (plan : PlanView) (survey : Survey) : Type 0 where
  pub legal : (phases : Phases) → Shows survey phases
      → Legal plan.version (commands_of plan survey) phases (node_count survey)
  pub sound : AreSound (node_count survey) (commands_of plan survey)

-- whether a slot has one target twice
abbrev pub TellsRetargets : PlanView → Survey → Bool → Type 0
TellsRetargets plan survey retargets = (phases : Phases) → Shows survey phases
    → (retargets ≡ false) ↔ HasNoRetarget (commands_of plan survey) phases

-- the plan is refused so, whatever phases the survey shows
abbrev pub IsRefusedOver : PlanView → Survey → VerifyFault → Type 0
IsRefusedOver plan survey f = (phases : Phases) → Shows survey phases
    → RefusedBy plan.version (node_count survey) phases (commands_of plan survey) f
