-- Runs in which all ASKING comes from clients that follow redirections.
use Rattle.std.specs.Prelude.{◌≡◌, ℕ, true, ◌⊎◌, List, [], ◌∷◌, ◌++◌}
use Rattle.std.specs.List.{AllByRecursion}
use Rattle.key_slots.specs.Owners.{Owners}
use Rattle.resp2_wire.specs.declared.reply.Reply.{Reply}
use Rattle.client_commands.specs.declared.command.Command.{Command}
use Rattle.cluster_world.specs.Worlds.{World}
use Rattle.cluster_world.specs.Steps.{Run}
use Rattle.cluster_world.specs.Honesty.{Honest, IsNoImport}
use Rattle.cluster_world.specs.Ports.{Execute, Send}
use Rattle.cluster_world.specs.Sends.{sends_in}
use Rattle.cluster_world.specs.declared.event.Event.{Event}
use Rattle.cluster_world.specs.declared.event.Event.TheVariants.{Client}
use Rattle.redirect_client.specs.Turns.{Turn, call_of, slot_of_command}
use Rattle.redirect_client.specs.Executions.{Follows}

-- the event is this send, by whatever seat
abbrev pub IsSend : Send → Event → Type 0
IsSend x e = sends_in (e ∷ []) ≡ x ∷ []

-- the sends stand in the events, in this order, perhaps with others between, and each event after the last one has P
abbrev pub StandIn : (P : Event → Type 0) → List Send → List Event → Type 0
StandIn P [] es = Unit {0}
StandIn P (x ∷ xs) [] = ⊥
StandIn P (x ∷ xs) (e ∷ es) =
    (IsSend x e × StandIn P xs es × (xs ≡ [] → AllByRecursion P es)) ⊎ StandIn P (x ∷ xs) es

-- A client of a cluster with this base port executes the command, its sends so far lie in the run so far, what came
-- after the last one has P, and the next one is to ask the node.
pub record AsksNext (P : Event → Type 0) (port : ℕ) (so_far : List Event) (n : ℕ) (c : Command) : Type 0 where
  pub believed : Owners
  pub sent : List Send
  pub turn : Turn
  pub follows : Follows port c believed sent turn
  pub lies : StandIn P sent so_far
  pub next : call_of c turn ≡ Execute n true c

-- each ASKING, by whatever seat, is the next send of such a client; P may speak of the slot and the node
abbrev pub AllAsk : (P : (slot node : ℕ) → Event → Type 0) → (port : ℕ) → List Event → Type 0
AllAsk P port events = (so_far rest : List Event) (seat n : ℕ) (c : Command) (r : Reply)
    → events ≡ so_far ++ Client seat n true c r ∷ rest → AsksNext (P (slot_of_command c) n) port so_far n c

-- and no SETSLOT IMPORTING of the slot was accepted at the asked node between the ASK and the send that follows it
abbrev pub AsksByClients : (port : ℕ) → List Event → Type 0
AsksByClients = AllAsk IsNoImport

-- a run in which all ASKING comes from clients that know the base port is honest
abbrev pub ClientsAreHonest : Type 0
ClientsAreHonest = (first : World) (events : List Event) (last : World) → Run first events last
    → AsksByClients first.base_port events → Honest first [] events
