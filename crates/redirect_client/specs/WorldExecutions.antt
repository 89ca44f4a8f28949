-- Clients over a world: what each executes is a run in which all ASKING is a client's, and such runs may follow one
-- another.
use Rattle.std.specs.Prelude.{◌≡◌, ◌≤◌, ℕ, true, cond, List, [], ◌∷◌, ◌++◌, Result, Ok, Err, length}
use Rattle.resp2_wire.specs.declared.reply.Reply.{Reply}
use Rattle.client_commands.specs.declared.command.Command.{Command}
use Rattle.cluster_world.specs.Worlds.{World}
use Rattle.cluster_world.specs.Steps.{Run}
use Rattle.cluster_world.specs.Ports.{IsSent}
use Rattle.cluster_world.specs.Sends.{events_of}
use Rattle.cluster_world.specs.Serving.{is_redirection, served}
use Rattle.cluster_world.specs.Static.{AreClients}
use Rattle.cluster_world.specs.declared.event.Event.{Event}
use Rattle.cluster_world.specs.declared.event.Event.TheVariants.{Client}
use Rattle.redirect_client.specs.ClientView.{ClientView}
use Rattle.redirect_client.specs.Executions.{Executes, Lent, sends_of}
use Rattle.redirect_client.specs.HonestClients.{AsksByClients}
use Rattle.redirect_client.specs.declared.client_fault.ClientFault.{ClientFault}

-- a world that a client is lent
abbrev pub lent : (first last : World) → Lent World
lent first last = record { sends = IsSent; before = first; after = last }

-- the events of all that the client sent for the command
abbrev pub own_events : (first : World) (client : ClientView) (c : Command) (result : Result Reply ClientFault)
    (last : World) (client' : ClientView) → Executes (lent first last) client c result client' → List Event
own_events first client c result last client' x = events_of 0 (sends_of (lent first last) client c result client' x)

-- What a client with the world's base port executes over the world is a run: the events of its own sends lead from the
-- first world to the last. They are those of a client, and all ASKING among them is earned.
abbrev pub ExecutionsAreRuns : Type 0
ExecutionsAreRuns = (first : World) (client : ClientView) (c : Command) (result : Result Reply ClientFault)
    (last : World) (client' : ClientView)
    → client.base_port ≡ first.base_port
    → (x : Executes (lent first last) client c result client')
    → Run first (own_events first client c result last client' x) last
    × AreClients (own_events first client c result last client' x)
    × AsksByClients first.base_port (own_events first client c result last client' x)

-- the command with the client's answer, if that is one of a served command: no fault and no redirection is
abbrev pub served_by : Command → Result Reply ClientFault → List (Command × Reply)
served_by c (Ok r) = cond (is_redirection r) [] ((c, r) ∷ [])
served_by c (Err f) = []

-- and at most one of these was served, each other one was answered a redirection; and the served one is answered so by
-- the client, too
abbrev pub ServedAtMostOnce : Type 0
ServedAtMostOnce = (first : World) (client : ClientView) (c : Command) (result : Result Reply ClientFault)
    (last : World) (client' : ClientView)
    → (x : Executes (lent first last) client c result client')
    → Run first (own_events first client c result last client' x) last
    × (length (served (own_events first client c result last client' x)) ≤ 1)
    × (served (own_events first client c result last client' x) ≡ served_by c result)

-- no client sent ASKING
abbrev pub NoneAsks : List Event → Type 0
NoneAsks events = (so_far rest : List Event) (seat n : ℕ) (c : Command) (r : Reply)
    → events ≡ so_far ++ Client seat n true c r ∷ rest → ⊥

-- events of such clients one after the other, and with others between that do not ask, are events of such clients
pub record AskingJoins : Type 0 where
  pub joined : (port : ℕ) (es fs : List Event) → AsksByClients port es → AsksByClients port fs
      → AsksByClients port (es ++ fs)
  pub others : (port : ℕ) (es : List Event) → NoneAsks es → AsksByClients port es
