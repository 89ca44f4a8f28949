-- What is said of keys that lie at a node which does not own their slot.
use Rattle.std.specs.Prelude.{◌≡◌, ◌↔◌, ◌⊎◌, ⊤, ℕ, List, [], Option, None, Some, length}
use Rattle.cluster_views.specs.Surveying.{IsSurveyed, Views}
use Rattle.cluster_admin.specs.Surveys.{Survey}
use Rattle.slot_key_counts.specs.Questions.{asks_for, with_owner}
use Rattle.slot_key_counts.specs.Rounds.{AreAsked, Told, Wants, talk}
use Rattle.slot_key_counts.specs.declared.questions.AskedNodes.TheVariants.{Others}
use Rattle.server_commands.specs.declared.book.Server.{Server}
use Rattle.server_links.specs.declared.link.Link as link
use Rattle.server_phases.specs.ServerPhases.{ServerPhases, ShowsPhases}
use Rattle.server_phases.specs.Stranded.{AreStranded}
use Rattle.server_phases.specs.declared.server_phase.ServerPhase.{ServerPhase}
use Rattle.server_phases.specs.declared.server_phase.ServerPhase.TheVariants as shown
use Rattle.cluster_inspection.specs.Starts.{SaysNoStart}
use Rattle.server_links.specs.Streams.{Streams}

-- ---- which nodes are asked

-- the owner of a slot that is closed
abbrev pub closed_owner : ServerPhase → Option ℕ
closed_owner (shown.Closed o) = Some o
closed_owner p = None

-- each node but the owner is asked for each closed slot, and nothing else is asked
abbrev pub wants_stranded : ServerPhases → Wants
wants_stranded phases n s = asks_for Others n (closed_owner (phases s))

-- one slot more, if it has an owner here
abbrev pub with_some : (ℕ → Option ℕ) → (slot : ℕ) → (owner : Option ℕ) → ℕ → Option ℕ
with_some owners slot None = owners
with_some owners slot (Some o) = with_owner owners slot o

-- ---- what is told

-- keys that are told of a survey's servers: how that begins, and which keys are read then
pub record Telling (C : Type 0) : Type 1 where
  pub begins : Survey → C → Type 0
  pub counts : C → (node slot keys : ℕ) → C → Type 0

-- the keys are those that the node told
abbrev pub tells : Told → (node slot keys : ℕ) → Told → Type 0
tells told n s k told' = (told n s ≡ Some k) × (told' ≡ told)

-- the lines of all slots, by what was told
abbrev pub HasLines : Told → Survey → (lines : List ℕ) → Type 0
HasLines told v lines = (told' : Told) × ((phases : ServerPhases) → ShowsPhases v phases
    → AreStranded tells (length v.rows) phases 16384 told lines told')

module _ {I O : Type 0} (by : Streams I O) where
  -- all nodes were asked in rounds, and this is what they told
  abbrev pub AreTold : Survey → Told → Type 0
  AreTold v told = (links : List (link.Link I O)) × (links' : List (link.Link I O)) × ((phases : ServerPhases)
      → ShowsPhases v phases → AreAsked (talk by) (wants_stranded phases) (length v.rows) links told links')

  abbrev pub TellsKeys : Telling Told
  TellsKeys = record { begins = AreTold; counts = tells }

module _ {C : Type 0} (telling : Telling C) where
  -- the lines of all slots, by such counts
  abbrev pub HasStrandedLines : Survey → (lines : List ℕ) → Type 0
  HasStrandedLines v lines = (c : C) × (c' : C) × telling.begins v c × ((phases : ServerPhases) → ShowsPhases v phases
      → AreStranded telling.counts (length v.rows) phases 16384 c lines c')

  -- these lines of servers that were surveyed, with 0 exactly where there is none; or why there is no survey
  abbrev pub SaysStranded : (status : ℕ) → (text : List ℕ) → Type 0
  SaysStranded status text = SaysNoStart status text
      ⊎ ((b : List Server) × (views : Views) × (v : Survey) × (length views ≡ length b) × IsSurveyed b views v
      × HasStrandedLines v text × ((status ≡ 0) ↔ (text ≡ [])))

-- with some numbers of keys
abbrev pub SaysSomeStranded : (status : ℕ) → (text : List ℕ) → Type 0
SaysSomeStranded = SaysStranded {C = ⊤} (record { begins = (λ v c. ⊤); counts = (λ c n s keys d. ⊤) })
