-- The rule of the one word, and what its steps tell.
use Rattle.std.specs.Prelude.{◌≡◌, ℕ, Option, suc, ◌-◌, ◌<◌, List, [], ◌∷◌, ◌++◌, slice_set, Some, None, false}
use mathlib.Core.Option.{some}
use lib.ListN.{get_elem?}
use Rattle.atomic_table.specs.Table.{State as Table, Me, Step}
use Rattle.atomic_table.specs.Seated.{TableId}
use Rattle.cluster_world.specs.Worlds.{World, node_at}
use Rattle.cluster_world.specs.Steps.{after}
use Rattle.cluster_world.specs.declared.event.Event.{Event}
use Rattle.shared_trail.specs.declared.view.Part.{Part}
use Rattle.shared_trail.specs.declared.view.Part.TheVariants.{Calls, State}
use Rattle.shared_trail.specs.declared.view.Ledger.{Ledger}
use Rattle.shared_trail.specs.declared.view.View.{View}
use Rattle.cluster_world.specs.Earning.{world_after}
use Rattle.shared_trail.specs.Trails.{IsTrail, parts_of, among}

-- what a name that is not picked names
abbrev pub no_world : World
no_world = record { base_port = 0; nodes = [] }

abbrev pub no_table : TableId
no_table = record { words = 0; slots = 0; views_name = 0; atom = 0; block = 0; offset = 0; slot_names = [] }

-- the views: the trail's, another's, the trail's with another joined, and one of nothing
abbrev pub keeper : Ledger → View
keeper b = record { ledger = Some b; part = None }

abbrev pub holder : ℕ → Part → View
holder k p = record { ledger = None; part = Some (k, p) }

abbrev pub both : Ledger → ℕ → Part → View
both b k p = record { ledger = Some b; part = Some (k, p) }

abbrev pub empty_view : View
empty_view = record { ledger = None; part = None }

-- how the steps change the ledger
abbrev pub with_flight : Event → Ledger → Ledger
with_flight e b = record {
  events = b.events;
  world = b.world;
  flight = Some e;
  parts = b.parts;
  made = b.made;
  gone = b.gone;
}

abbrev pub with_event : Event → Ledger → Ledger
with_event e b = record {
  events = b.events ++ e ∷ [];
  world = after b.world e;
  flight = None;
  parts = b.parts;
  made = b.made;
  gone = b.gone;
}

abbrev pub with_part : ℕ → Part → Ledger → Ledger
with_part k p b = record {
  events = b.events;
  world = b.world;
  flight = b.flight;
  parts = slice_set b.parts k p;
  made = b.made;
  gone = b.gone;
}

abbrev pub with_seat : Ledger → Ledger
with_seat b = record {
  events = b.events;
  world = b.world;
  flight = b.flight;
  parts = b.parts;
  made = suc b.made;
  gone = b.gone;
}

abbrev pub without_seat : ℕ → Ledger → Ledger
without_seat k b = record {
  events = b.events;
  world = b.world;
  flight = b.flight;
  parts = b.parts;
  made = b.made;
  gone = k ∷ b.gone;
}

-- the ledger with no event in flight
abbrev pub quiet_ledger : World → List Event → ℕ → List ℕ → Ledger
quiet_ledger w es made gone = record {
  events = es;
  world = world_after w es;
  flight = None;
  parts = parts_of w es;
  made = made;
  gone = gone;
}

-- with no event at all, while seats are made
abbrev pub opening_ledger : World → ℕ → Ledger
opening_ledger w made = quiet_ledger w [] made []

-- the events are a run from the opening world to the last one; with none in flight, each seat knows its part of the two
pub record IsSound (w : World) (b : Ledger) : Type 0 where
  pub run : IsTrail w b.events
  pub world : b.world ≡ world_after w b.events
  pub whole : b.flight ≡ None → b.parts ≡ parts_of w b.events

-- one seat at most has the trail, and each part lies with one seat at most, as the trail says,
-- until that seat is given back
pub record Fits (keeps : ℕ) (seat_of : ℕ → ℕ) (b : Ledger) (id : ℕ) (v : View) : Type 0 where
  pub ledger : (c : Ledger) → v.ledger ≡ Some c → (id ≡ keeps) × (c ≡ b)
  pub part : (k : ℕ) (p : Part) → v.part ≡ Some (k, p)
      → (id ≡ seat_of k) × (k < b.made) × (get_elem? b.parts k ≡ some p) × (among k b.gone ≡ false)

pub record Kept (w : World) (views : List View) : Type 0 where
  pub keeps : ℕ
  pub seat_of : ℕ → ℕ
  pub ledger : Ledger
  pub sound : IsSound w ledger
  pub fits : (id : ℕ) (v : View) → get_elem? views id ≡ some v → Fits keeps seat_of ledger id v

abbrev pub Tied : {S : Type 0} → World → Table S View → Type 0
Tied w s = Kept w s.views

abbrev pub first_view : World → View
first_view w = keeper (opening_ledger w 0)

-- what the steps tell
abbrev pub DealStep : Step Event → Me Event View → ℕ → Me Event View → Type 0
DealStep s v n w = (b : Ledger) (p : Part) → v ≡ (keeper b, []) → b.gone ≡ [] → get_elem? b.parts b.made ≡ some p
    → w ≡ (both (with_seat b) b.made p, [])

abbrev pub BeginStep : Step Event → Me Event View → ℕ → Me Event View → Type 0
BeginStep s v n w = (b : Ledger) (e : Event) → v ≡ (keeper b, []) → s.said ≡ some e → w ≡ (keeper (with_flight e b), [])

-- what a seat knows once it has taken the event in flight: a caller has one call more, a node its new state
abbrev pub part_after : Event → World → ℕ → Part → Part
part_after e w k (Calls l) = Calls (l ++ e ∷ [])
part_after e w k (State x) = State (node_at (after w e) (k - 33))

abbrev pub TakeStep : Step Event → Me Event View → ℕ → Me Event View → Type 0
TakeStep s v n w = (b : Ledger) (k : ℕ) (p : Part) (e : Event) → v ≡ (both b k p, []) → b.flight ≡ Some e
    → (get_elem? b.parts k ≡ some p)
    × (w ≡ (both (with_part k (part_after e b.world k p) b) k (part_after e b.world k p), []))

abbrev pub EndStep : Step Event → Me Event View → ℕ → Me Event View → Type 0
EndStep s v n w = (b : Ledger) (e : Event) → v ≡ (keeper b, []) → b.flight ≡ Some e → w ≡ (keeper (with_event e b), [])

-- a look at two joined views
abbrev pub ShowStep : Step Event → Me Event View → ℕ → Me Event View → Type 0
ShowStep s v n w = (w ≡ v) × ((b : Ledger) (k : ℕ) (p : Part) → v ≡ (both b k p, []) → get_elem? b.parts k ≡ some p)

-- the joined seat is given back
abbrev pub SettleStep : Step Event → Me Event View → ℕ → Me Event View → Type 0
SettleStep s v n w = (b : Ledger) (k : ℕ) (p : Part) → v ≡ (both b k p, [])
    → (get_elem? b.parts k ≡ some p) × (among k b.gone ≡ false) × (w ≡ (keeper (without_seat k b), []))

-- what a view has, and how two become one and part again
abbrev pub blank_ledger : Ledger
blank_ledger = record { events = []; world = no_world; flight = None; parts = []; made = 0; gone = [] }

abbrev pub ledger_or : Option Ledger → Ledger
ledger_or (Some b) = b
ledger_or None = blank_ledger

abbrev pub ledger_of : View → Ledger
ledger_of v = ledger_or v.ledger

abbrev pub part_or : Option (ℕ × Part) → ℕ × Part
part_or (Some x) = x
part_or None = (0, Calls [])

abbrev pub part_of : View → ℕ × Part
part_of v = part_or v.part

abbrev pub left_of : View → View
left_of v = record { ledger = v.ledger; part = None }

abbrev pub right_of : View → View
right_of v = record { ledger = None; part = v.part }

abbrev pub together : View → View → View
together v w = record { ledger = v.ledger; part = w.part }

abbrev pub part_in : List View → ℕ × Part
part_in [] = (0, Calls [])
part_in (v ∷ vs) = part_of v
