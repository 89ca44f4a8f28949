-- What a client does with one command, and what comes of it.
use Rattle.std.specs.Prelude.{◌≡◌, ℕ, ◌<◌, ◌⊎◌, List, [], ◌∷◌, ◌++◌, length, Result, Ok, Err}
use Rattle.std.proofs.Common.{inl, inr}
use Rattle.key_slots.specs.Owners.{Owners}
use Rattle.resp2_wire.specs.declared.reply.Reply.{Reply}
use Rattle.client_commands.specs.declared.command.Command.{Command}
use Rattle.cluster_world.specs.Ports.{Answer, Send, Chain}
use Rattle.redirect_client.specs.ClientView.{ClientView}
use Rattle.redirect_client.specs.Redirects.{Means}
use Rattle.redirect_client.specs.Turns.{Turn, call_of, slot_of_command, IsRedirected}
use Rattle.redirect_client.specs.declared.meaning.Destination.TheVariants.{Owner}
use Rattle.redirect_client.specs.declared.meaning.Meaning.TheVariants as meaning
use Rattle.redirect_client.specs.declared.client_fault.ClientFault.{ClientFault}
use Rattle.redirect_client.specs.declared.client_fault.ClientFault.TheVariants.{TooManySends, BadRedirect, Port}

-- a command first goes to the believed owner
abbrev pub first_turn : Owners → Turn
first_turn owners = record { owners = owners; next = Owner }

-- by these sends, each of which a redirection answered, a client with these owners comes to this turn
abbrev pub Follows : (port : ℕ) → Command → Owners → List Send → Turn → Type 0
Follows port c owners sends turn = Chain (IsRedirected port c) (first_turn owners) sends turn

-- what comes of an answer that is no redirection: the answer itself, a bad redirection, or a fault of the port
abbrev pub IsEnd : (port nodes slot : ℕ) → Answer → Result Reply ClientFault → Type 0
IsEnd port nodes slot (Ok r) result =
    (Means port nodes slot r meaning.Answer × (result ≡ Ok r))
    ⊎ (Means port nodes slot r meaning.Bad × (result ≡ Err BadRedirect))
IsEnd port nodes slot (Err f) result = result ≡ Err (Port f)

-- a port that was lent: what it sends, and how it was and is left
pub record Lent (P : Type 0) : Type 1 where
  pub sends : P → Send → P → Type 0
  pub before : P
  pub after : P

-- After so many sends that redirections answered, and with the port as they left it: sixteen are too many; else one
-- more send, and its answer is no redirection.
abbrev pub Ends : {P : Type 0} → Lent P → (base_port : ℕ) → Command → (count : ℕ) → Turn → Result Reply ClientFault
    → Type 0
Ends port base_port c count turn result =
    ((count ≡ 16) × (result ≡ Err TooManySends) × (port.after ≡ port.before))
    ⊎ ((answer : Answer) × (count < 16)
    × port.sends port.before (record { call = call_of c turn; answer = answer }) port.after
    × IsEnd base_port turn.owners.nodes (slot_of_command c) answer result)

-- the send after those that redirections answered, if there was one
abbrev pub last_send : {P : Type 0} (port : Lent P) (base_port : ℕ) (c : Command) (count : ℕ) (turn : Turn)
    (result : Result Reply ClientFault) → Ends port base_port c count turn result → List Send
last_send port base_port c count turn result (inl e) = []
last_send port base_port c count turn result (inr e) = record { call = call_of c turn; answer = e.0 } ∷ []

-- A client executes a command: sends that redirections answered, and the end. What it learned on the way it keeps.
pub record Executes {P : Type 0} (port : Lent P) (client : ClientView) (c : Command)
    (result : Result Reply ClientFault) (client' : ClientView) : Type 0 where
  pub redirected : List Send
  pub turn : Turn
  pub mid : P
  pub chain : Chain port.sends port.before redirected mid
  pub follows : Follows client.base_port c client.owners redirected turn
  pub ends : Ends (record { sends = port.sends; before = mid; after = port.after }) client.base_port c
      (length redirected) turn result
  pub keeps : client' ≡ record client { owners = turn.owners }

-- all that the client sent for the command, in this order
abbrev pub sends_of : {P : Type 0} (port : Lent P) (client : ClientView) (c : Command)
    (result : Result Reply ClientFault) (client' : ClientView) → Executes port client c result client' → List Send
sends_of port client c result client' x = x.redirected ++ last_send
    (record { sends = port.sends; before = x.mid; after = port.after }) client.base_port c (length x.redirected) x.turn
    result x.ends
