-- The trail under its lock, as contracts see it.
use Rattle.std.specs.Prelude.{ℕ, List, refl}
use Rattle.std.specs.Coded.{Coded, code_by, coded×, coded_list, coded_ℕ}
use Rattle.cluster_world.specs.declared.event.Event.{Event}
use Rattle.cluster_world.specs.contracts.event.Event as the_event

-- its events, how many places are reserved, and the numbers of the seats that were given back
pub record TrailView : Type 0 where
  pub events : List Event
  pub room : ℕ
  pub gone : List ℕ

abbrev pub trail_view_code : Coded TrailView
trail_view_code =
    code_by (List Event × (ℕ × List ℕ))
    (coded× (coded_list the_event.the_row.coded) (coded× coded_ℕ (coded_list coded_ℕ)))
    (λ t. (t.events, (t.room, t.gone)))
    (λ p. record { events = p.0; room = p.1.0; gone = p.1.1 }) (λ _. refl)
