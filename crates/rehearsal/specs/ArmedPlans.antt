-- Of which events of a trail the headline speaks: of those since a plan was armed.
use Rattle.std.specs.Prelude.{◌≡◌, ◌≢◌, ℕ, List, [], ◌∷◌, ◌++◌, length, None}
use Rattle.key_slots.specs.Owners.{Owners, IsTable}
use Rattle.store_commands.specs.Store.{Store}
use Rattle.slot_keyspace.specs.Listing.{keys_of}
use Rattle.cluster_admin.specs.declared.admin.AdminCommand.TheVariants.{Stable}
use Rattle.cluster_world.specs.Worlds.{World, node_at, owner}
use Rattle.cluster_world.specs.Steps.{Run, after}
use Rattle.cluster_world.specs.Cleanness.{Clean, IsUnmarked}
use Rattle.cluster_world.specs.Honesty.{Honest, past_of}
use Rattle.cluster_world.specs.Openness.{HavePhases, Open}
use Rattle.cluster_admin.specs.Phases.{closed_by, Phases}
use Rattle.cluster_world.specs.declared.event.Event.{Event}
use Rattle.cluster_world.specs.declared.event.Event.TheVariants.{Admin}
use Rattle.plan_language.specs.declared.plan_command.PlanCommand.{PlanCommand}
use Rattle.plan_semantics.specs.Plans.{Legal}
use Rattle.cluster_world.specs.AdminCalls.{calls}
use Rattle.reshard_theorem.specs.Driven.{DrivenTo}
use Rattle.plan_semantics.specs.Driving.{NoRefusal, remaining}
use Rattle.reshard_theorem.specs.Starts.{Reshard}
use Rattle.plan_runner.specs.ProgressView.{Progress}
use Rattle.reshard_theorem.specs.Headline.{Headline}
use Rattle.cluster_world.specs.Recorded.{Recorded, IsRecord, IsFirstNumber}

-- A plan was armed in the past of this trail, and the administrator's commands since then are its own.
pub record IsUnderway (r : Recorded) (plan : Progress) : Type 0 where
  -- the world in which it was armed, and the phases of its slots
  pub start : World
  pub phases : Phases
  pub have : HavePhases start phases
  -- its commands, which are legal for those
  pub version : ℕ
  pub commands : List PlanCommand
  pub legal : Legal version commands phases (length start.nodes)
  -- the trail has events that led to that world, and then those that led to the world as it is
  pub before : List Event
  pub since : List Event
  pub parts : r.events ≡ before ++ since
  pub led_there : Run r.first before start
  pub led_here : Run start since r.world
  -- they are driven by these commands, of which so much is left; none was refused, and none that was sent is missing
  pub driven : DrivenTo commands since (remaining plan.rest plan.listed)
  pub none_refused : NoRefusal (calls since)
  pub all_sent : length (calls since) ≡ plan.spent

-- every plan that was underway still is
abbrev pub KeepsPlans : Recorded → Recorded → Type 0
KeepsPlans r next = (plan : Progress) → IsUnderway r plan → IsUnderway next plan

-- the setting of the plan, where the nodes held this store as it was armed
abbrev pub armed_in : (r : Recorded) (plan : Progress) → IsUnderway r plan → Store → Reshard
armed_in r plan u store = record {
  version = u.version;
  plan = u.commands;
  phases = u.phases;
  store = store;
  before = past_of [] u.before;
  first = u.start;
}

-- the world was open as the plan was armed, and held this store
abbrev pub WasOpen : (r : Recorded) (plan : Progress) → IsUnderway r plan → Store → Type 0
WasOpen r plan u store = Open u.start u.phases store (past_of [] u.before)

-- ---- keys that a STABLE left behind

-- a STABLE takes the importing mark of a slot from a node that does not own the slot: it held no key of it then
abbrev pub LeavesNone : World → Event → Type 0
LeavesNone w (Admin n (Stable s) r) = owner w n s ≢ n → keys_of (node_at w n).held s ≡ []
LeavesNone w e = Unit {0}

-- no STABLE among the events left a key behind
abbrev pub NoneLeftBehind : World → List Event → Type 0
NoneLeftBehind w [] = Unit {0}
NoneLeftBehind w (e ∷ es) = LeavesNone w e × NoneLeftBehind (after w e) es

-- ---- laws

-- a world on a trail is clean for a table as soon as every node has that table and no mark stands, whatever else
-- clients and the administrator did before, if no STABLE left a key behind
abbrev pub UnmarkedIsClean : Type 0
UnmarkedIsClean = (r : Recorded) (o : Owners) → IsRecord r → NoneLeftBehind r.first r.events → IsTable o
    → IsUnmarked r.world o → (store : Store) × Clean r.world o.owners store

-- so it is open, with every slot closed, whatever was asked before
abbrev pub UnmarkedIsOpen : Type 0
UnmarkedIsOpen = (r : Recorded) (o : Owners) → IsRecord r → NoneLeftBehind r.first r.events → IsTable o
    → IsUnmarked r.world o → (store : Store) × Open r.world (closed_by o.owners) store (past_of [] r.events)

-- the headline holds of the events since the plan was armed, if the world was open then and they are honest
abbrev pub HeadlineSinceArming : Type 0
HeadlineSinceArming = (r : Recorded) (plan : Progress) (u : IsUnderway r plan) (store : Store) → WasOpen r plan u store
    → Honest u.start (past_of [] u.before) u.since → Headline (armed_in r plan u store) u.since r.world

-- they are, if the line `honest` finds no event of the whole trail
abbrev pub HonestSinceArming : Type 0
HonestSinceArming = (r : Recorded) (plan : Progress) (u : IsUnderway r plan) → IsFirstNumber r None
    → Honest u.start (past_of [] u.before) u.since

-- wherever the plan stops, the world is open in the phases that its slots have, so what is armed there next is armed in
-- an open world
abbrev pub StaysOpen : Type 0
StaysOpen = (r : Recorded) (plan : Progress) (u : IsUnderway r plan) (store : Store) → WasOpen r plan u store
    → Honest u.start (past_of [] u.before) u.since → (now : Phases) → HavePhases r.world now
    → (left : Store) × Open r.world now left (past_of [] r.events)
