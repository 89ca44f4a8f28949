-- The administrator's calls among the events.
use Rattle.std.specs.Prelude.{List, [], ◌∷◌}
use Rattle.cluster_admin.specs.declared.call.AdminCall.{AdminCall}
use Rattle.cluster_world.specs.declared.event.Event.{Event}
use Rattle.cluster_world.specs.declared.event.Event.TheVariants.{Client, Look, Admin}

-- in order
abbrev pub calls : List Event → List AdminCall
calls [] = []
calls (Client seat n asking c r ∷ es) = calls es
calls (Look seat n r ∷ es) = calls es
calls (Admin n c r ∷ es) = record { node = n; command = c; reply = r } ∷ calls es
