-- What is printed of the last event: the administrator's call, with its reply.
use Rattle.std.specs.Prelude.{ℕ, List, [], ◌∷◌}
use Rattle.cluster_world.specs.declared.event.Event.{Event}
use Rattle.cluster_world.specs.declared.event.Event.TheVariants as event
use Rattle.transcripts.specs.CallTexts.{call_text}

-- nothing of a client's event
abbrev pub event_text : Event → List ℕ
event_text (event.Admin n c reply) = call_text (record { node = n; command = c; reply = reply })
event_text e = []

-- of the last event
abbrev pub last_text : List Event → List ℕ
last_text [] = []
last_text (e ∷ []) = event_text e
last_text (e ∷ f ∷ es) = last_text (f ∷ es)
