-- A world with the trail of its events, from its opening on.
use Rattle.std.specs.Prelude.{◌≡◌, ℕ, ◌<◌, ◌+◌, List, [], ◌∷◌, ◌++◌, length, Option, None, Some, refl}
use Rattle.std.specs.Coded.{Coded, code_by, coded×, coded_list, coded_option}
use Rattle.key_slots.specs.Owners.{Owners, IsTable}
use Rattle.resp2_wire.specs.declared.reply.Reply.{Reply}
use Rattle.cluster_world.specs.Worlds.{World, node_at, world_code}
use Rattle.cluster_world.specs.WorldView.{new_world}
use Rattle.cluster_world.specs.contracts.event.Event as the_event
use Rattle.cluster_world.specs.contracts.recorded.Sent as the_sent
use Rattle.cluster_world.specs.Steps.{action_of, Answers, IsCall, Run, after}
use Rattle.cluster_world.specs.Earning.{IsFirstDishonest}
use Rattle.cluster_world.specs.declared.event.Event.{Event}
use Rattle.cluster_world.specs.declared.event.Event.TheVariants as event
use Rattle.cluster_world.specs.declared.recorded.Sent.{Sent}
use Rattle.cluster_world.specs.declared.recorded.Sent.TheVariants.{Command, Look}

-- the world as it was opened, its events since then, the world as it is, and a client's call that the world has
-- answered and that is no event yet
pub record Recorded : Type 0 where
  pub first : World
  pub events : List Event
  pub world : World
  pub sent : Option Sent

abbrev pub recorded_code : Coded Recorded
recorded_code =
    code_by (World × (List Event × (World × Option Sent)))
    (coded× world_code (coded× (coded_list the_event.the_row.coded)
    (coded× world_code (coded_option the_sent.the_row.coded))))
    (λ r. (r.first, (r.events, (r.world, r.sent))))
    (λ p. record { first = p.0; events = p.1.0; world = p.1.1.0; sent = p.1.1.1 }) (λ _. refl)

-- what node 0 takes for the owners
abbrev pub first_owners : Recorded → Owners
first_owners r = record { nodes = length r.world.nodes; owners = (node_at r.world 0).owners }

-- nothing has happened yet
abbrev pub begun : World → Recorded
begun w = record { first = w; events = []; world = w; sent = None }

-- the event is the next one, and was put on the trail
abbrev pub with_event : Recorded → Event → Recorded
with_event r e = record { first = r.first; events = r.events ++ e ∷ []; world = after r.world e; sent = None }

-- it is a call, the world answers it, and it is put on the trail
abbrev pub Puts : Recorded → Event → Recorded → Type 0
Puts r e next = IsCall (action_of e) × Answers r.world e × (next ≡ with_event r e)

-- each event is a client's call, or an administrator's command that keeps what commands keep
abbrev pub AreCalls : List Event → Type 0
AreCalls [] = Unit {0}
AreCalls (e ∷ es) = IsCall (action_of e) × AreCalls es

-- a cluster that was just opened with some table
pub record IsJustOpened (w : World) : Type 0 where
  pub port : ℕ
  pub table : Owners
  pub is_table : IsTable table
  pub is : w ≡ new_world port table.nodes table.owners

-- The events on the trail are calls and a run from the opening to the world as it is, and no call waits to be put
-- there.
pub record IsRecord (r : Recorded) : Type 0 where
  pub none_waits : r.sent ≡ None
  pub opening : IsJustOpened r.first
  pub calls : AreCalls r.events
  pub run : Run r.first r.events r.world

-- the number, from 1, of the first event that is not honest, if there is one
abbrev pub IsFirstNumber : Recorded → Option ℕ → Type 0
IsFirstNumber r None = IsFirstDishonest r.first r.events None
IsFirstNumber r (Some n) = (place : ℕ) × (n ≡ place + 1) × IsFirstDishonest r.first r.events (Some place)

-- ---- a client's call, by the seat 0, that the world has answered

abbrev pub sent_event : Sent → Reply → Event
sent_event (Command n asking c) reply = event.Client 0 n asking c reply
sent_event (Look n) reply = event.Look 0 n reply

-- the world has taken the step, and the call waits for its reply
abbrev pub held : Recorded → Sent → Reply → Recorded
held r s reply =
    record { first = r.first; events = r.events; world = after r.world (sent_event s reply); sent = Some s }

abbrev pub put_sent : Option Sent → Recorded → Reply → Recorded
put_sent None r reply = r
put_sent (Some s) r reply =
    record { first = r.first; events = r.events ++ sent_event s reply ∷ []; world = r.world; sent = None }

-- the call that waits is put on the trail with its reply
abbrev pub put : Recorded → Reply → Recorded
put r reply = put_sent r.sent r reply

-- a place on the trail is kept for a call that waits
abbrev pub HasRoom : Option Sent → ℕ → Type 0
HasRoom None room = Unit {0}
HasRoom (Some s) room = 0 < room
