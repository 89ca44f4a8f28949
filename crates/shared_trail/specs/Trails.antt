-- Events of a running cluster: who made each of them, the world that they leave, and what each seat knows of them.
use Rattle.std.specs.Prelude.{ℕ, zero, suc, Bool, ◌<◌, ◌==◌, List, [], ◌∷◌, ◌++◌, map, if◌then◌else◌}
use Rattle.std.specs.List.{list_any}
use Rattle.cluster_world.specs.Worlds.{World}
use Rattle.cluster_world.specs.Steps.{after, Answers}
use Rattle.cluster_world.specs.Earning.{world_after}
use Rattle.cluster_world.specs.declared.event.Event.{Event}
use Rattle.cluster_world.specs.declared.event.Event.TheVariants.{Client, Look, Admin}
use Rattle.shared_trail.specs.declared.view.Part.{Part}
use Rattle.shared_trail.specs.declared.view.Part.TheVariants.{Calls, State}

-- who made the event: 0 to 31 is a client's seat, 32 the administrator
abbrev pub caller : Event → ℕ
caller (Client seat n asking c reply) = seat
caller (Look seat n reply) = seat
caller (Admin n c reply) = 32

-- a client's event names one of the 32 seats
abbrev pub IsNamed : Event → Type 0
IsNamed (Client seat n asking c reply) = seat < 32
IsNamed (Look seat n reply) = seat < 32
IsNamed (Admin n c reply) = Unit {0}

-- each event is a step of the world there, and names who made it
abbrev pub IsTrail : World → List Event → Type 0
IsTrail w [] = Unit {0}
IsTrail w (e ∷ es) = Answers w e × IsNamed e × IsTrail (after w e) es

-- the events of one caller
abbrev pub calls_of : ℕ → List Event → List Event
calls_of c [] = []
calls_of c (e ∷ es) = if caller e == c then e ∷ calls_of c es else calls_of c es

-- the parts of the callers c to c + n - 1
abbrev pub callers_from : ℕ → ℕ → List Event → List Part
callers_from c zero es = []
callers_from c (suc n) es = Calls (calls_of c es) ∷ callers_from (suc c) n es

-- whether the number stands in the list
abbrev pub among : ℕ → List ℕ → Bool
among n ns = list_any (λ m. n == m) ns

-- what all seats know: the 33 callers, then the nodes
abbrev pub parts_of : World → List Event → List Part
parts_of w es = callers_from 0 33 es ++ map State (world_after w es).nodes
