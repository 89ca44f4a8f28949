-- A trail: what happened in a cluster, from its opening on.
use Rattle.std.specs.Prelude.{◌≡◌, ℕ, List, refl}
use Rattle.std.specs.Coded.{Coded, code_by, coded×, coded_list, coded_ℕ}
use Rattle.key_slots.specs.Owners.{Owners, owners_code}
use Rattle.cluster_world.specs.Worlds.{World}
use Rattle.cluster_world.specs.WorldView.{new_world}
use Rattle.cluster_world.specs.Steps.{Run}
use Rattle.cluster_world.specs.declared.event.Event.{Event}
use Rattle.cluster_world.specs.contracts.event.Event as the_event

-- the table and the port at the opening, the events, and how many places are reserved beside them
pub record Trail : Type 0 where
  pub owners : Owners
  pub base_port : ℕ
  pub events : List Event
  pub room : ℕ

abbrev pub trail_code : Coded Trail
trail_code =
    code_by (Owners × (ℕ × (List Event × ℕ)))
    (coded× owners_code (coded× coded_ℕ (coded× (coded_list the_event.the_row.coded) coded_ℕ)))
    (λ t. (t.owners, (t.base_port, (t.events, t.room))))
    (λ p. record { owners = p.0; base_port = p.1.0; events = p.1.1.0; room = p.1.1.1 }) (λ _. refl)

-- all but the room
pub record HasSame (t : Trail) (owners : Owners) (port : ℕ) (events : List Event) : Type 0 where
  pub owners_are : t.owners ≡ owners
  pub port_is : t.base_port ≡ port
  pub events_are : t.events ≡ events

-- the world at the opening: nodes with the table that hold nothing
abbrev pub opening : Trail → World
opening t = new_world t.base_port t.owners.nodes t.owners.owners

-- the events are a run from the opening
abbrev pub IsRunFromOpening : Trail → Type 0
IsRunFromOpening t = (last : World) × Run (opening t) t.events last
