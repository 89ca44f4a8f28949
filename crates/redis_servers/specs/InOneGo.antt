-- Several nodes are told in one go that a slot is another's: the command is sent to each over its own connection, and
-- after that the answers are read.
use Rattle.std.specs.Prelude.{◌≡◌, ◌≢◌, ◌⊎◌, ℕ, ◌<◌, Bool, true, false, cond, not, List, [], ◌∷◌, ◌++◌, map, reverse}
use Rattle.std.specs.Prelude.{length, Option, Some, None, Result, Ok, Err}
use Rattle.std.specs.List.{list_all, AllByRecursion}
use Rattle.cluster_admin.specs.declared.admin.AdminCommand.{AdminCommand}
use Rattle.cluster_admin.specs.declared.admin.AdminCommand.TheVariants.{SetNode}
use Rattle.cluster_admin.specs.declared.admin.AdminReply.{AdminReply}
use Rattle.cluster_admin.specs.declared.admin.AdminReply.TheVariants as admin
use Rattle.cluster_admin.specs.declared.call.AdminCall.{AdminCall}
use Rattle.cluster_admin.specs.declared.port_fault.PortFault.{PortFault}
use Rattle.cluster_admin.specs.declared.port_fault.PortFault.TheVariants.{Memory, Wire}
use Rattle.resp2_wire.specs.declared.reply.Reply.{Reply}
use Rattle.server_commands.specs.Spelling.{request_of}
use Rattle.server_links.specs.Streams.{Question, Streams}
use Rattle.redis_servers.specs.Asking.{AsksNode}
use Rattle.redis_servers.specs.Calls.{Commands, Given}
use Rattle.redis_servers.specs.RunHistories.{RunHistory}
use Rattle.redis_servers.specs.Runs.{Runs}
use Rattle.redis_servers.specs.Saying.{or_lost}
use Rattle.redis_servers.specs.declared.commanding.Outcome.{Outcome}
use Rattle.redis_servers.specs.declared.port_stop.PortStop.{PortStop}
use Rattle.redis_servers.specs.declared.port.ServersPort as port
use Rattle.redis_servers.specs.declared.setup.PortSetup.{PortSetup}
use Rattle.redis_servers.specs.declared.telling.Telling.{Telling}

-- of so many nodes these are others than the owner
abbrev pub AreOthers : (count owner : ℕ) → (nodes : List ℕ) → Type 0
AreOthers k owner nodes = AllByRecursion (λ n. (n < k) × (n ≢ owner)) nodes

-- ---- what is told

-- the node answered that it is done
abbrev pub says_done : AdminReply → Bool
says_done admin.Ok = true
says_done other = false

abbrev pub is_done : Given → Bool
is_done (Ok reply) = says_done reply
is_done (Err f) = false

abbrev pub is_fault : Given → Bool
is_fault (Ok reply) = false
is_fault (Err f) = true

-- what one of the nodes gave, as far as it is told
abbrev pub as_told : Outcome → Telling
as_told o = record { is_done = is_done o.given; is_fault = is_fault o.given; said = o.said }

-- of which of several is told: of the first that has not done it, or else of the last
abbrev pub told_of : Telling → (later : Option Telling) → Telling
told_of t None = t
told_of t (Some later) = cond t.is_done later t

abbrev pub telling : List Outcome → Option Telling
telling [] = None
telling (o ∷ os) = Some (told_of (as_told o) (telling os))

-- what is said then; of a fault something in any case
abbrev pub said_of : Option Telling → Option (List ℕ)
said_of None = None
said_of (Some t) = cond t.is_fault (Some (or_lost t.said)) t.said

-- whether the port stops: one of them has not done it
abbrev pub stops_by : Option Telling → Bool
stops_by None = false
stops_by (Some t) = not t.is_done

-- ---- over the connections

module _ {L : Type 0} (asks : Question → List L →
    (node : ℕ) → Result Reply PortStop → List L → Type 0) where
  -- The command goes to each of the nodes, and each gives this. That is said of one node after the other: no
  -- connection has to do with another one, so it is no matter that all are sent to before the first answer is read.
  abbrev pub TellsEach : PortSetup → RunHistory → (request : List ℕ) → AdminCommand → List L → (nodes : List ℕ)
      → List Outcome → List L → Type 0
  TellsEach x history request c links [] os links' = (os ≡ []) × (links' ≡ links)
  TellsEach x history request c links (n ∷ ns) os links' = (o : Outcome) × (rest : List Outcome) × (mid : List L)
      × (os ≡ o ∷ rest) × Commands asks x history request n c links o.given o.said mid
      × TellsEach x history request c mid ns rest links'

  -- so it goes to each, and the answers are put after others, the last one first
  abbrev pub TellsOn : PortSetup → RunHistory → (request : List ℕ) → AdminCommand → List L
      → (nodes : List ℕ)
      → (answers answers' : List Given) → Option Telling → List L → Type 0
  TellsOn x history request c links nodes answers answers' told links' = (os : List Outcome)
      × TellsEach x history request c links nodes os links'
      × (answers' ≡ answers ++ reverse (map (λ o. o.given) os)) × (told ≡ telling os)

module _ {L : Type 0} (hears : Question → List L →
    (node : ℕ) → Result Reply PortStop → List L → Type 0) where
  -- the node's answer to what was sent to it is read, unless it could not be sent
  abbrev pub Finishes : PortSetup → RunHistory → (node : ℕ) → AdminCommand → Result (Unit {0}) PortStop → List L → Given
      → Option (List ℕ) → List L → Type 0
  Finishes x history n c (Ok u) links given said links' = Commands hears x history [] n c links given said links'
  Finishes x history n c (Err h) links given said links' =
      (given ≡ Err h.fault) × (said ≡ h.said) × (links' ≡ links)

-- ---- the port

-- The nodes are told that the slot is the owner's. Where one of them has not done it, the port has stopped.
pub record TellsInOneGo {I O P : Type 0} (by : Streams I O) (slot owner : ℕ) (nodes : List ℕ)
    (p : port.ServersPort I O P) (answers : List Given) (q : port.ServersPort I O P) : Type 0 where
  pub open_before : p.has_stopped ≡ false
  pub outcomes : List Outcome
  pub each : TellsEach (AsksNode by) p.setup p.history
      (request_of p.setup.book p.setup.timeout p.setup.credentials (SetNode slot owner)) (SetNode slot owner)
      p.links.items nodes outcomes q.links.items
  pub answers_are : answers ≡ map (λ o. o.given) outcomes
  pub said : q.said ≡ said_of (telling outcomes)
  pub setup : q.setup ≡ p.setup
  pub history : q.history ≡ p.history
  pub stopped : q.has_stopped ≡ not (list_all is_done answers)
  pub unheard : q.unheard ≡ p.unheard

-- out of memory with nothing sent, or the port had stopped; it is as it was
abbrev pub TellsNone : {I O P : Type 0} → PortFault → port.ServersPort I O P → port.ServersPort I O P → Type 0
TellsNone f p q = (q ≡ p) × ((f ≡ Memory) ⊎ ((f ≡ Wire) × (p.has_stopped ≡ true)))

-- Where all of them have done it, that is a run of single calls, one after the other.
abbrev pub told_calls : (slot owner : ℕ) → (nodes : List ℕ) → List AdminCall
told_calls slot owner nodes = map (λ n. record { node = n; command = SetNode slot owner; reply = admin.Ok }) nodes

abbrev pub TellingsAreRuns : {I O : Type 0} → Streams I O → (P : Type 0) → Type 0
TellingsAreRuns {I} {O} by P = (slot owner : ℕ) (nodes : List ℕ) (p q : port.ServersPort I O P) (answers : List Given)
    → owner < length p.setup.book → AreOthers (length p.setup.book) owner nodes → (nodes ≡ [] → q ≡ p)
    → TellsInOneGo by slot owner nodes p answers q → list_all is_done answers ≡ true
    → Runs by p (told_calls slot owner nodes) q
