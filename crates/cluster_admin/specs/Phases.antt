-- The phases in which a slot may stand while nobody moves it on (the page of CLUSTER SETSLOT, "Redis Cluster live
-- resharding explained"): from what the nodes say of its owner, and from their marks alone.
use Rattle.std.specs.Prelude.{◌≡◌, ◌≢◌, ℕ, ◌<◌, Bool, false, cond, ◌==◌, ◌||◌, List, [], ◌∷◌, Option, Some, None}
use Rattle.std.specs.Prelude.{slice_index}
use Rattle.std.specs.List.{list_any, AllByRecursion}

-- the number is in the list
abbrev pub among : ℕ → List ℕ → Bool
among n ns = list_any (λ m. n == m) ns

-- no number stands twice
abbrev pub IsDistinct : List ℕ → Type 0
IsDistinct [] = Unit {0}
IsDistinct (n ∷ ns) = (among n ns ≡ false) × IsDistinct ns

-- All nodes agree on the owner (Closed); the target imports the slot; the source migrates it too; the target says that
-- it is its own; the source says so too, and some others do not yet.
pub data Phase : Type 0 where
  Closed : (owner : ℕ) → Phase
  Importing : (source target : ℕ) → Phase
  Migrating : (source target : ℕ) → Phase
  TargetTold : (source target : ℕ) → Phase
  -- `left` are the nodes that still say the source
  SourceTold : (source target : ℕ) (left : List ℕ) → Phase

-- what node n says the owner is
abbrev pub owner_in : Phase → ℕ → ℕ
owner_in (Closed o) n = o
owner_in (Importing s t) n = s
owner_in (Migrating s t) n = s
owner_in (TargetTold s t) n = cond (n == t) t s
owner_in (SourceTold s t left) n = cond (among n left) s t

-- and its marks
abbrev pub goes_in : Phase → ℕ → Option ℕ
goes_in (Migrating s t) n = cond (n == s) (Some t) None
goes_in (TargetTold s t) n = cond (n == s) (Some t) None
goes_in phase n = None

abbrev pub comes_in : Phase → ℕ → Option ℕ
comes_in (Importing s t) n = cond (n == t) (Some s) None
comes_in (Migrating s t) n = cond (n == t) (Some s) None
comes_in phase n = None

-- whether keys of the slot may lie at node n
abbrev pub may_lie : Phase → ℕ → Bool
may_lie (Closed o) n = n == o
may_lie (Importing s t) n = n == s
may_lie (Migrating s t) n = n == s || n == t
may_lie (TargetTold s t) n = n == t
may_lie (SourceTold s t left) n = n == t

-- two nodes of n
pub record AreTwo (n source target : ℕ) : Type 0 where
  pub apart : source ≢ target
  pub source_below : source < n
  pub target_below : target < n

-- other nodes, each once
pub record AreOthers (n source target : ℕ) (others : List ℕ) : Type 0 where
  pub each_other : AllByRecursion (λ m. (m < n) × (m ≢ source) × (m ≢ target)) others
  pub distinct : IsDistinct others

-- among n nodes there may be this phase
abbrev pub IsPhase : (n : ℕ) → Phase → Type 0
IsPhase n (Closed o) = o < n
IsPhase n (Importing s t) = AreTwo n s t
IsPhase n (Migrating s t) = AreTwo n s t
IsPhase n (TargetTold s t) = AreTwo n s t
IsPhase n (SourceTold s t left) = AreTwo n s t × AreOthers n s t left × (left ≢ [])

-- a slot is in this phase, by what each of n nodes says of its owner and by their marks
pub record HasPhase (n : ℕ) (own : ℕ → ℕ) (goes comes : ℕ → Option ℕ) (p : Phase) : Type 0 where
  pub fine : IsPhase n p
  pub owners : (m : ℕ) → m < n → own m ≡ owner_in p m
  pub going : (m : ℕ) → m < n → goes m ≡ goes_in p m
  pub coming : (m : ℕ) → m < n → comes m ≡ comes_in p m

-- the phases of all slots
abbrev pub Phases : Type 0
Phases = ℕ → Phase

-- every slot is closed at its owner in the table
abbrev pub closed_by : List ℕ → Phases
closed_by owners s = Closed (slice_index owners s)
