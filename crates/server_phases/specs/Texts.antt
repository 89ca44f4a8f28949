-- How open slots are printed: each with its phase, the keys at both ends, and the commands that close it.
use Rattle.std.specs.Prelude.{◌≡◌, ◌⊎◌, ℕ, zero, suc, List, [], ◌∷◌, ◌++◌, codes, decimal}
use Rattle.std.specs.List.{flat_map}
use Rattle.cluster_views.specs.declared.fault.SurveyFault.{SurveyFault}
use Rattle.cluster_views.specs.declared.fault.SurveyFault.TheVariants as survey_fault
use Rattle.plan_language.specs.Texts.{command_text}
use Rattle.plan_language.specs.declared.plan_command.PlanCommand.{PlanCommand}
use Rattle.reshard_planner.specs.Resuming.{rest_of}
use Rattle.survey_texts.specs.Texts.{node_text}
use Rattle.server_phases.specs.Faults.{strange_text}
use Rattle.server_phases.specs.ServerPhases.{ServerPhases, modelled}
use Rattle.server_phases.specs.declared.server_phase.ServerPhase.{ServerPhase}
use Rattle.server_phases.specs.declared.server_phase.ServerPhase.TheVariants as shown

-- ---- the rest

-- each command after ` / `
abbrev pub more_text : List PlanCommand → List ℕ
more_text commands = flat_map (λ c. codes " / " ++ command_text c) commands

-- commands with ` / ` between them
abbrev pub joined_text : List PlanCommand → List ℕ
joined_text [] = []
joined_text (c ∷ commands) = command_text c ++ more_text commands

-- what closes a slot of n nodes that is in this phase, by 10 keys at a time
abbrev pub closing : (n slot : ℕ) → ServerPhase → List PlanCommand
closing n s p = rest_of n s 10 (modelled p)

-- `rest of slot 24: setslot 24 node n1 at n0`
abbrev pub rest_text : (slot : ℕ) → List PlanCommand → List ℕ
rest_text s [] = []
rest_text s (c ∷ commands) =
    codes "rest of slot " ++ (decimal s ++ (codes ": " ++ (joined_text (c ∷ commands) ++ 10 ∷ [])))

-- ---- the phase

-- `slot 24 is migrating from n0 to n1`
abbrev pub course_text : (slot : ℕ) (how : List ℕ) (source target : ℕ) → List ℕ
course_text s how a b = codes "slot " ++ (decimal s ++ (how ++ (node_text a ++ (codes " to " ++ node_text b))))

-- `: 51 keys at n0`
abbrev pub source_text : (source keys : ℕ) → List ℕ
source_text a k = codes ": " ++ (decimal k ++ (codes " keys at " ++ node_text a))

-- `, 52 at n1`
abbrev pub target_text : (target keys : ℕ) → List ℕ
target_text b l = codes ", " ++ (decimal l ++ (codes " at " ++ (node_text b ++ 10 ∷ [])))

abbrev pub keys_text : (source source_keys target target_keys : ℕ) → List ℕ
keys_text a k b l = source_text a k ++ target_text b l

module _ {C : Type 0} (counts : C → (node slot keys : ℕ) → C → Type 0) where
  -- the line of a slot on its way, whose keys were counted at the source and then at the target
  pub record IsCounted (slot : ℕ) (how : List ℕ) (source target : ℕ) (before : C) (text : List ℕ) (after : C)
      : Type 0 where
    pub source_keys : ℕ
    pub target_keys : ℕ
    pub between : C
    pub first : counts before source slot source_keys between
    pub second : counts between target slot target_keys after
    pub whole : text ≡ course_text slot how source target ++ keys_text source source_keys target target_keys

  -- nothing of a closed slot, and no counts of a strange one
  abbrev pub IsPhaseLine : (slot : ℕ) → ServerPhase → C → List ℕ → C → Type 0
  IsPhaseLine s (shown.Closed o) c t c' = (t ≡ []) × (c' ≡ c)
  IsPhaseLine s (shown.Importing a b) c t c' = IsCounted s (codes " is importing from ") a b c t c'
  IsPhaseLine s (shown.Migrating a b) c t c' = IsCounted s (codes " is migrating from ") a b c t c'
  IsPhaseLine s (shown.Told a b) c t c' = IsCounted s (codes " is told from ") a b c t c'
  IsPhaseLine s (shown.Strange k) c t c' = (t ≡ strange_text s k ++ 10 ∷ []) × (c' ≡ c)

  -- the slot's phase, and then its rest
  abbrev pub IsSlotText : (n slot : ℕ) → ServerPhase → C → List ℕ → C → Type 0
  IsSlotText n s p c t c' =
      (line : List ℕ) × IsPhaseLine s p c line c' × (t ≡ line ++ rest_text s (closing n s p))

  -- those of so many slots, ascending
  unfoldable pub AreLines : (n : ℕ) → ServerPhases → (count : ℕ) → C → List ℕ → C → Type 0
  AreLines n phases zero c t c' = (t ≡ []) × (c' ≡ c)
  AreLines n phases (suc k) c t c' = (before : List ℕ) × (mid : C) × (last : List ℕ) × AreLines n phases k c before mid
      × IsSlotText n k (phases k) mid last c' × (t ≡ before ++ last)

-- out of memory, or a count that failed so
abbrev pub IsUncounted : {C : Type 0} → (fails : C → (node slot : ℕ) → SurveyFault → C → Type 0) → SurveyFault → Type 0
IsUncounted {C} fails e =
    (e ≡ survey_fault.Memory) ⊎ ((c : C) × (node : ℕ) × (slot : ℕ) × (c' : C) × fails c node slot e c')
