-- The administrator's events of a trail, by the number of its seat and by their kind.
use Rattle.std.proofs.Common.{◌≡◌, ◌≢◌, ℕ, ◌<◌, ◌==◌, ne_eqb, List, [], ◌∷◌, map, Bool, true, false, refl, sym, ap, ◌∙◌, arith}
use Rattle.std.specs.Prelude.{if◌then◌else◌}
use Rattle.cluster_world.specs.Worlds.{World}
use Rattle.cluster_world.specs.Steps.{after}
use Rattle.cluster_admin.specs.declared.call.AdminCall.{AdminCall}
use Rattle.cluster_world.specs.declared.event.Event.{Event}
use Rattle.cluster_world.specs.declared.event.Event.TheVariants.{Client, Look, Admin}
use Rattle.cluster_world.specs.AdminCalls.{calls}
use Rattle.shared_trail.specs.Seats.{event_of}
use Rattle.shared_trail.specs.Trails.{IsTrail, calls_of}

others : (seat : ℕ) (e : Event) (l m : List Event) → seat < 32 → (if seat == 32 then e ∷ l else l) ≡ m → l ≡ m
others seat e l m low is = sym (ap (λ (b : Bool). if b then e ∷ l else l) (ne_eqb seat 32 (λ same. omega arith))) ∙ is

event_back : Event → AdminCall → AdminCall
event_back (Client seat n asking c r) d = d
event_back (Look seat n r) d = d
event_back (Admin n c r) d = record { node = n; command = c; reply = r }

-- what the administrator's seat has is exactly its calls among the events
pub listed : (w : World) (es : List Event) (cs : List AdminCall) → IsTrail w es → calls_of 32 es ≡ map event_of cs → calls es ≡ cs
unfolding event_back
listed w [] [] h is = refl
listed w [] (c ∷ cs) h is = absurd (cc is)
listed w (Client seat n asking c r ∷ es) cs h is = listed (after w (Client seat n asking c r)) es cs h.2 (others seat (Client seat n asking c r) (calls_of 32 es) (map event_of cs) h.1 is)
listed w (Look seat n r ∷ es) cs h is = listed (after w (Look seat n r)) es cs h.2 (others seat (Look seat n r) (calls_of 32 es) (map event_of cs) h.1 is)
listed w (Admin n c r ∷ es) [] h is = absurd (cc is)
listed w (Admin n c r ∷ es) (d ∷ cs) h is =
    let first : Admin n c r ≡ event_of d = cc is in
    let rest : calls_of 32 es ≡ map event_of cs = cc is in
    λ i. event_back (first i) d ∷ listed (after w (Admin n c r)) es cs h.2 rest i
