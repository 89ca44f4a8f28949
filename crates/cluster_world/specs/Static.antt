-- A cluster that no administrator touches.
use Rattle.std.specs.Prelude.{◌≡◌, ℕ, cond, ◌==◌, List, [], ◌∷◌, slice_index}
use Rattle.resp2_wire.specs.declared.reply.Reply.{Reply}
use Rattle.store_commands.specs.Store.{Store}
use Rattle.store_commands.specs.Apply.{answer}
use Rattle.client_commands.specs.Commands.{keys}
use Rattle.client_commands.specs.declared.command.Command.{Command}
use Rattle.slot_marks.specs.Verdicts.{first_slot, is_cross}
use Rattle.slot_marks.specs.declared.verdict.Verdict.TheVariants.{Moved, CrossSlot}
use Rattle.cluster_node.specs.Redirections.{redirection}
use Rattle.cluster_world.specs.Worlds.{World}
use Rattle.cluster_world.specs.Steps.{Run}
use Rattle.cluster_world.specs.Serving.{served, replay_of, store_after}
use Rattle.cluster_world.specs.Cleanness.{Clean}
use Rattle.cluster_world.specs.declared.event.Event.{Event}
use Rattle.cluster_world.specs.declared.event.Event.TheVariants.{Client, Look, Admin}

-- only clients call
abbrev pub AreClients : List Event → Type 0
AreClients [] = Unit {0}
AreClients (Client seat n asking c r ∷ es) = AreClients es
AreClients (Look seat n r ∷ es) = AreClients es
AreClients (Admin n c r ∷ es) = ⊥

-- what one table says of the keys at the node n: several slots, another owner, or the answer of the one store
abbrev pub static_reply : (port : ℕ) (owners : List ℕ) → Store → ℕ → Command → Reply
static_reply port owners store n c =
    cond (is_cross (keys c)) (redirection port (first_slot (keys c)) CrossSlot)
    (cond (slice_index owners (first_slot (keys c)) == n) (answer store c)
    (redirection port (first_slot (keys c)) (Moved (slice_index owners (first_slot (keys c))))))

-- each command is answered so, with the store as the served commands before it have left it
abbrev pub AnsweredStatically : (port : ℕ) (owners : List ℕ) → Store → List Event → Type 0
AnsweredStatically port owners store [] = Unit {0}
AnsweredStatically port owners store (Client seat n asking c r ∷ es) =
    (r ≡ static_reply port owners store n c)
    × AnsweredStatically port owners (store_after store (served (Client seat n asking c r ∷ []))) es
AnsweredStatically port owners store (Look seat n r ∷ es) = AnsweredStatically port owners store es
AnsweredStatically port owners store (Admin n c r ∷ es) = ⊥

-- From a clean world, whatever clients send: each reply is the one table's and the one store's, and the world is clean
-- with that store
pub record IsStatic (first : World) (owners : List ℕ) (store : Store) (events : List Event)
    (last : World) : Type 0 where
  pub replies : AnsweredStatically first.base_port owners store events
  pub replay : served events ≡ replay_of store (served events)
  pub clean : Clean last owners (store_after store (served events))

abbrev pub StaticCluster : Type 0
StaticCluster = (first : World) (owners : List ℕ) (store : Store) (events : List Event) (last : World)
    → Clean first owners store → Run first events last → AreClients events → IsStatic first owners store events last
