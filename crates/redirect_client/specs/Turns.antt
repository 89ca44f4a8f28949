-- How a client follows redirections, send by send (Redis Cluster specification, "MOVED Redirection", "ASK
-- redirection").
use Rattle.std.specs.Prelude.{◌≡◌, ℕ, ◌<◌, true, false, List, slice_index, slice_set, Ok}
use Rattle.key_slots.specs.Owners.{Owners}
use Rattle.resp2_wire.specs.declared.reply.Reply.{Reply}
use Rattle.client_commands.specs.Commands.{keys}
use Rattle.client_commands.specs.declared.command.Command.{Command}
use Rattle.slot_marks.specs.Verdicts.{first_slot}
use Rattle.cluster_world.specs.Ports.{Call, Execute, Send}
use Rattle.redirect_client.specs.Redirects.{IsRedirection}
use Rattle.redirect_client.specs.declared.meaning.Redirect.{Redirect}
use Rattle.redirect_client.specs.declared.meaning.Redirect.TheVariants.{Moved, Ask, TryAgain}
use Rattle.redirect_client.specs.declared.meaning.Destination.{Destination}
use Rattle.redirect_client.specs.declared.meaning.Destination.TheVariants.{Owner, Asked}

-- a command's slot is that of its first key
abbrev pub slot_of_command : Command → ℕ
slot_of_command c = first_slot (keys c)

-- where a client stands with a command: the owners that it believes in, and where the command goes next
pub record Turn : Type 0 where
  pub owners : Owners
  pub next : Destination

-- to the believed owner, or with ASKING where an ASK says
abbrev pub call_to : Command → List ℕ → Destination → Call
call_to c owners Owner = Execute (slice_index owners (slot_of_command c)) false c
call_to c owners (Asked n) = Execute n true c

abbrev pub call_of : Command → Turn → Call
call_of c t = call_to c t.owners.owners t.next

-- MOVED names the slot's owner; ASK and TRYAGAIN teach nothing
abbrev pub owners_after : Owners → (slot : ℕ) → Redirect → Owners
owners_after o s (Moved n) = record o { owners = slice_set o.owners s n }
owners_after o s (Ask n) = o
owners_after o s TryAgain = o

-- ASK names the node for the next send; after MOVED and TRYAGAIN the command goes to the owner
abbrev pub destination : Redirect → Destination
destination (Moved n) = Owner
destination (Ask n) = Asked n
destination TryAgain = Owner

abbrev pub turn_after : Command → Turn → Redirect → Turn
turn_after c t x = record { owners = owners_after t.owners (slot_of_command c) x; next = destination x }

-- one send, which a redirection answered
pub record IsRedirected (port : ℕ) (c : Command) (t : Turn) (s : Send) (next : Turn) : Type 0 where
  pub reply : Reply
  pub redirect : Redirect
  pub sent : s.call ≡ call_of c t
  pub answer : s.answer ≡ Ok reply
  pub meaning : IsRedirection port t.owners.nodes (slot_of_command c) reply redirect
  pub on : next ≡ turn_after c t redirect

-- it is the owner, or a node among so many
abbrev pub IsThere : (nodes : ℕ) → Destination → Type 0
IsThere nodes Owner = Unit {0}
IsThere nodes (Asked n) = n < nodes
