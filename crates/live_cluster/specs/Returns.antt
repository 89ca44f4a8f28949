-- Seats that come back.
use Rattle.std.specs.Prelude.{◌≡◌, ℕ, ◌<◌, true, false, List, [], ◌∷◌, map, length}
use Rattle.std.specs.List.{All, IsDistinct}
use lib.Dec.{eqb}
use Rattle.cluster_world.specs.declared.event.Event.{Event}
use Rattle.cluster_world.specs.declared.event.Event.TheVariants.{Client, Look, Admin}
use Rattle.shared_trail.specs.Trails.{among, calls_of}

-- the numbers of the seats that are back, once these came after the others
abbrev pub back_after : List ℕ → List ℕ → List ℕ
back_after [] back = back
back_after (n ∷ ns) back = back_after ns (n ∷ back)

-- each of these seats comes back for the first time
abbrev pub AreFirst : List ℕ → List ℕ → Type 0
AreFirst [] back = Unit {0}
AreFirst (n ∷ ns) back = (among n back ≡ false) × AreFirst ns (n ∷ back)

abbrev pub numbers_of : List (ℕ × List Event) → List ℕ
numbers_of seats = map (λ s. s.0) seats

-- the event is the administrator's, or of a client's seat below this number
abbrev pub IsBelow : (given : ℕ) → Event → Type 0
IsBelow k (Client seat n asking c reply) = seat < k
IsBelow k (Look seat n reply) = seat < k
IsBelow k (Admin n c reply) = Unit {0}

-- the event is the administrator's, or of one of these seats
abbrev pub IsOfOne : (seats : List ℕ) → Event → Type 0
IsOfOne ns (Client seat n asking c reply) = among seat ns ≡ true
IsOfOne ns (Look seat n reply) = among seat ns ≡ true
IsOfOne ns (Admin n c reply) = Unit {0}

-- what a closed cluster says of the seats that were handed in: they are different ones of those that were given, the
-- list of each is its part of the trail, and no event is of a seat that was not given
pub record AreHandedIn (events : List Event) (given : ℕ) (seats : List (ℕ × List Event)) : Type 0 where
  pub apart : IsDistinct eqb (numbers_of seats)
  pub numbered : All (λ s. s.0 < given) seats
  pub lists : All (λ s. calls_of s.0 events ≡ s.1) seats
  pub callers : All (IsBelow given) events

-- where all seats that were given are handed in, each event is the administrator's or of one of these, and so stands in
-- its list
abbrev pub TrailsAreTheirLists : Type 0
TrailsAreTheirLists = (events : List Event) (given : ℕ) (seats : List (ℕ × List Event))
    → AreHandedIn events given seats → length seats ≡ given
    → All (IsOfOne (numbers_of seats)) events
