-- Plans: the legal ones, and the owners that they leave (the page of CLUSTER SETSLOT, "Redis Cluster live resharding
-- explained").
use Rattle.std.specs.Prelude.{◌≡◌, ◌≢◌, ℕ, ◌<◌, ◌≤◌, Bool, true, false, ◌==◌, ◌⊎◌, List, [], ◌∷◌, ◌++◌}
use Rattle.std.specs.Prelude.{filter, length, map, slice_index}
use Rattle.std.specs.List.{list_any, AllByRecursion}
use Rattle.plan_language.specs.declared.plan_command.PlanCommand.{PlanCommand}
use Rattle.plan_language.specs.declared.plan_command.PlanCommand.TheVariants as planned
use Rattle.cluster_admin.specs.Phases.{Phase, Phases, AreTwo, AreOthers}
use Rattle.cluster_admin.specs.Phases as phase
pub use Rattle.cluster_admin.specs.Phases.{among, IsDistinct}

abbrev pub slot_named : PlanCommand → ℕ
slot_named (planned.Importing s m at) = s
slot_named (planned.Migrating s m at) = s
slot_named (planned.Drain s m t b) = s
slot_named (planned.SetNode s m at) = s
slot_named (planned.Stable s at) = s

-- the commands that name the slot, in order
abbrev pub part : List PlanCommand → ℕ → List PlanCommand
part plan s = filter (λ o. slot_named o == s) plan

-- the ends of a move, and every other node once
pub record AreEnds (n source target : ℕ) (others : List ℕ) : Type 0 where
  pub apart : source ≢ target
  pub source_below : source < n
  pub target_below : target < n
  pub each_other : AllByRecursion (λ m. (m < n) × (m ≢ source) × (m ≢ target)) others
  pub distinct : IsDistinct others
  pub every : (m : ℕ) → m < n → m ≢ source → m ≢ target → among m others ≡ true

-- these nodes are told the target
abbrev pub tell : (s target : ℕ) → List ℕ → List PlanCommand
tell s t ns = map (λ m. planned.SetNode s t m) ns

-- ---- what begins at a closed slot

-- a whole move, or a try: the target imports, and takes its mark back
pub data Leg : Type 0 where
  Move : (target batch : ℕ) (others : List ℕ) → Leg
  Try : (target : ℕ) → Leg

-- the commands of the legs, the first from this owner
abbrev pub legs_of : (s owner : ℕ) → List Leg → List PlanCommand
legs_of s o [] = []
legs_of s o (Move t b others ∷ legs) = planned.Importing s o t ∷ planned.Migrating s t o ∷ planned.Drain s o t b
    ∷ planned.SetNode s t t ∷ planned.SetNode s t o ∷ (tell s t others ++ legs_of s t legs)
legs_of s o (Try t ∷ legs) = planned.Importing s o t ∷ planned.Stable s t ∷ legs_of s o legs

-- each from the owner that the one before it left, to another node; tries need version 3
abbrev pub AreLegs : (version n owner : ℕ) → List Leg → Type 0
AreLegs v n o [] = Unit {0}
AreLegs v n o (Move t b others ∷ legs) = (0 < b) × AreEnds n o t others × AreLegs v n t legs
AreLegs v n o (Try t ∷ legs) = (v ≡ 3) × AreTwo n o t × AreLegs v n o legs

-- ---- what closes an open one

-- The commands that close a slot from its phase on, and the owner that they leave
abbrev pub Closes : (version n s : ℕ) → Phase → List PlanCommand → (owner : ℕ) → Type 0
Closes v n s (phase.Closed o) rest owner = (rest ≡ []) × (owner ≡ o)
Closes v n s (phase.Importing o t) rest owner =
    ((v ≡ 3) × (rest ≡ planned.Stable s t ∷ []) × (owner ≡ o))
    ⊎ ((b : ℕ) × (others : List ℕ) × (0 < b) × AreEnds n o t others × (owner ≡ t)
    × (rest ≡ planned.Migrating s t o ∷ planned.Drain s o t b ∷ planned.SetNode s t t ∷ planned.SetNode s t o
    ∷ tell s t others))
Closes v n s (phase.Migrating o t) rest owner =
    (b : ℕ) × (others : List ℕ) × (0 < b) × AreEnds n o t others × (owner ≡ t)
    × (rest ≡ planned.Drain s o t b ∷ planned.SetNode s t t ∷ planned.SetNode s t o ∷ tell s t others)
Closes v n s (phase.TargetTold o t) rest owner =
    (others : List ℕ) × AreEnds n o t others × (owner ≡ t) × (rest ≡ planned.SetNode s t o ∷ tell s t others)
Closes v n s (phase.SourceTold o t left) rest owner =
    (others : List ℕ) × IsDistinct others × ((m : ℕ) → among m others ≡ among m left) × (owner ≡ t)
    × (rest ≡ tell s t others)

-- version 1 moves a slot at most once; the rest that ends at the target of an open slot is its move
abbrev pub KeepsVersion : (version : ℕ) → Phase → List Leg → Type 0
KeepsVersion v (phase.Closed o) legs = v ≡ 1 → length legs ≤ 1
KeepsVersion v (phase.Importing o t) legs = v ≡ 1 → legs ≡ []
KeepsVersion v (phase.Migrating o t) legs = v ≡ 1 → legs ≡ []
KeepsVersion v (phase.TargetTold o t) legs = v ≡ 1 → legs ≡ []
KeepsVersion v (phase.SourceTold o t left) legs = v ≡ 1 → legs ≡ []

-- The part of a slot in this phase: what closes it, then moves and tries
pub record IsPart (version n s : ℕ) (phase : Phase) (commands : List PlanCommand) : Type 0 where
  pub closing : List PlanCommand
  pub owner : ℕ
  pub closes : Closes version n s phase closing owner
  pub legs : List Leg
  pub are : AreLegs version n owner legs
  pub keeps : KeepsVersion version phase legs
  pub is : commands ≡ closing ++ legs_of s owner legs
  -- only slots are named
  pub below : commands ≢ [] → s < 16384

abbrev pub Legal : (version : ℕ) → List PlanCommand → Phases → (n : ℕ) → Type 0
Legal version plan phases n = (s : ℕ) → IsPart version n s (phases s) (part plan s)

-- ---- the owner in the end

-- the owner of the last SETSLOT NODE, or the one before
abbrev pub last_told : ℕ → List PlanCommand → ℕ
last_told o [] = o
last_told o (planned.SetNode s m at ∷ rest) = last_told m rest
last_told o (c ∷ rest) = last_told o rest

-- the owner that a slot has if no SETSLOT NODE follows
abbrev pub first_owner : Phase → ℕ
first_owner (phase.Closed o) = o
first_owner (phase.Importing o t) = o
first_owner (phase.Migrating o t) = t
first_owner (phase.TargetTold o t) = t
first_owner (phase.SourceTold o t left) = t

abbrev pub final_owner : List PlanCommand → Phases → ℕ → ℕ
final_owner plan phases s = last_told (first_owner (phases s)) (part plan s)

-- the owners in the end, as a table
pub record IsFinal (plan : List PlanCommand) (phases : Phases) (final : List ℕ) : Type 0 where
  pub width : length final ≡ 16384
  pub owner : (s : ℕ) → s < 16384 → slice_index final s ≡ final_owner plan phases s

-- every plan leaves such a table
abbrev pub LeavesTable : Type 0
LeavesTable = (plan : List PlanCommand) (phases : Phases) → (final : List ℕ) × IsFinal plan phases final
