-- Honest runs, event by event; the first event that is not earned; and what replies alone tell of the importing marks.
use Rattle.std.specs.Prelude.{◌≡◌, ◌↔◌, ℕ, cond, ◌==◌, ◌&&◌, ◌||◌, not, List, [], ◌∷◌, ◌++◌, length, Option, Some}
use Rattle.std.specs.Prelude.{None, Bool, true, false, codes, nat_eq}
use Rattle.std.specs.Cmp.Lexicographic.{pointwise}
use Rattle.resp2_wire.specs.declared.reply.Reply.{Reply}
use Rattle.resp2_wire.specs.declared.reply.Reply.TheVariants as answers
use Rattle.store_commands.specs.Store.{Key}
use Rattle.client_commands.specs.Commands.{keys}
use Rattle.slot_marks.specs.Verdicts.{first_slot}
use Rattle.cluster_node.specs.Redirections.{place}
use Rattle.cluster_admin.specs.declared.admin.AdminCommand.TheVariants.{Importing, SetNode, Stable}
use Rattle.cluster_admin.specs.declared.admin.AdminReply.TheVariants as reply
use Rattle.cluster_world.specs.Worlds.{World, importing}
use Rattle.cluster_world.specs.Steps.{after, Answers}
use Rattle.cluster_world.specs.declared.event.Event.{Event}
use Rattle.cluster_world.specs.declared.event.Event.TheVariants.{Client, Admin}
use Rattle.cluster_world.specs.Honesty.{WasAsked, IsEarned, Honest, past_of}

-- the world after the events
abbrev pub world_after : World → List Event → World
world_after w [] = w
world_after w (e ∷ es) = world_after (after w e) es

-- each event is earned by the events before it
abbrev pub EachIsEarned : (first : World) (before events : List Event) → Type 0
EachIsEarned first before events = (prefix : List Event) (e : Event) (rest : List Event) → events ≡ prefix ++ e ∷ rest
    → IsEarned (world_after first prefix) (past_of before prefix) e

abbrev pub HonestByEach : Type 0
HonestByEach = (first : World) (before events : List Event)
    → Honest first before events ↔ EachIsEarned first before events

-- ---- by tests

-- the reply is the error with this text
abbrev pub is_error : List ℕ → Reply → Bool
is_error t (answers.Error u) = pointwise nat_eq u t
is_error t other = false

-- the event answered these keys with an ASK to the node
abbrev pub is_ask : (port : ℕ) → List Key → ℕ → Event → Bool
is_ask port ks n (Client seat at asking c r) = pointwise (pointwise nat_eq) (keys c) ks
    && is_error (codes "ASK" ++ place port (first_slot ks) n) r
is_ask port ks n event = false

-- the event is an accepted SETSLOT IMPORTING of the slot at the node
abbrev pub is_import : (slot node : ℕ) → Event → Bool
is_import s n (Admin at (Importing t m) reply.Ok) = n == at && s == t
is_import s n event = false

-- the keys were answered with an ASK to the node, and their slot was not imported there anew since: events, the newest
-- first
abbrev pub was_asked : (port : ℕ) → List Event → List Key → ℕ → Bool
was_asked port [] ks n = false
was_asked port (e ∷ past) ks n =
    is_ask port ks n e || (not (is_import (first_slot ks) n e) && was_asked port past ks n)

abbrev pub AskedByTest : Type 0
AskedByTest = (port n : ℕ) (ks : List Key) (past : List Event) → WasAsked port past ks n
    ↔ (was_asked port past ks n ≡ true)

-- ---- the first event that is not earned

-- the events before this place are honest, and the one at it is not earned
pub record IsDishonestAt (first : World) (events : List Event) (i : ℕ) : Type 0 where
  pub prefix : List Event
  pub event : Event
  pub rest : List Event
  pub place : i ≡ length prefix
  pub is : events ≡ prefix ++ event ∷ rest
  pub honest : Honest first [] prefix
  pub unearned : IsEarned (world_after first prefix) (past_of [] prefix) event → ⊥

-- the first such place, or none where all are honest
abbrev pub IsFirstDishonest : World → List Event → Option ℕ → Type 0
IsFirstDishonest first events None = Honest first [] events
IsFirstDishonest first events (Some i) = IsDishonestAt first events i

-- a place that is found shows that the run is not honest
abbrev pub FoundIsDishonest : Type 0
FoundIsDishonest = (first : World) (events : List Event) (i : ℕ) → IsDishonestAt first events i → Honest first [] events
    → ⊥

-- the importing marks after an event, by its reply alone: those before it, but for an accepted SETSLOT
abbrev pub imports : (ℕ → ℕ → Option ℕ) → Event → ℕ → ℕ → Option ℕ
imports marks (Admin x (Importing s m) reply.Ok) = λ n t. cond (n == x && t == s) (Some m) (marks n t)
imports marks (Admin x (SetNode s m) reply.Ok) = λ n t. cond (n == x && t == s && m == x) None (marks n t)
imports marks (Admin x (Stable s) reply.Ok) = λ n t. cond (n == x && t == s) None (marks n t)
imports marks event = marks

abbrev pub MarksAreTold : Type 0
MarksAreTold = (w : World) (e : Event) → Answers w e → (n t : ℕ)
    → importing (after w e) n t ≡ imports (λ m s. importing w m s) e n t
