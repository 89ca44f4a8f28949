-- One look at a server: at the nodes that it lists, or at its role (the pages of CLUSTER NODES and ROLE).
use Rattle.std.specs.Prelude.{◌≡◌, ◌⊎◌, ◌↔◌, ℕ, zero, suc, ◌<◌, Bool, true, false, ◌&&◌, ◌||◌, ◌-◌, nat_le}
use Rattle.std.specs.Prelude.{List}
use Rattle.std.specs.List.{list_any}
use Rattle.std.specs.Prelude.{Option, Some, Result, Ok, Err, IsTrue, codes, is_some, length}
use Rattle.byte_texts.specs.Words.{is}
use Rattle.listed_nodes.specs.Nodes.{nodes_of_text}
use Rattle.listed_nodes.specs.declared.node_line.NodeLine.{NodeLine}
use Rattle.listed_nodes.specs.declared.slot_word.SlotWord.{SlotWord}
use Rattle.listed_nodes.specs.declared.slot_word.SlotWord.TheVariants.{Slots}
use Rattle.cluster_admin.specs.declared.port_fault.PortFault.TheVariants.{Wire}
use Rattle.resp2_wire.specs.Tree.{Trees, bulk, more}
use Rattle.resp2_wire.specs.declared.reply.Reply.{Reply}
use Rattle.resp2_wire.specs.declared.reply.Reply.TheVariants as reply
use Rattle.server_commands.specs.Servers.{server_at}
use Rattle.server_commands.specs.declared.credentials.Credentials.{Credentials}
use Rattle.server_commands.specs.declared.book.Server.{Server}
use Rattle.server_links.specs.Limits.{line_limit}
use Rattle.server_links.specs.Streams.{Question}
use Rattle.cluster_admin.specs.Surveys.{Survey}
use Rattle.redis_servers.specs.RunHistories.{RunHistory, taken_from, takes}
use Rattle.redis_servers.specs.Hearing.{IsNoList, epoch_named, same_epoch}
use Rattle.redis_servers.specs.Saying.{SaysUseless}
use Rattle.redis_servers.specs.declared.port_stop.PortStop.{PortStop}
use Rattle.redis_servers.specs.declared.setup.PortSetup.{PortSetup}

-- ---- ROLE

abbrev pub role_request : List ℕ
role_request = codes "*1\r\n$4\r\nROLE\r\n"

abbrev pub role_question : Question
role_question = record { request = role_request; limit = line_limit }

-- the first word of the reply
abbrev pub begins_master : Trees → Bool
begins_master (more (bulk t) rs) = is (codes "master") t
begins_master other = false

abbrev pub TellsRole : Reply → Bool → Type 0
TellsRole (reply.Array rs) b = b ≡ begins_master rs
TellsRole other b = ⊥

abbrev pub HasNoRole : Reply → Type 0
HasNoRole (reply.Array rs) = ⊥
HasNoRole other = Unit {0}

-- the node's reply is of no use
abbrev pub IsNoRole : Option Credentials → (node : ℕ) → Reply → PortStop → Type 0
IsNoRole login n r h = (h.fault ≡ Wire) × SaysUseless (HasNoRole r) login n r h.said

-- ---- what a list of nodes shows

-- the word is of slots, and the slot is among them
abbrev pub covers : (slot : ℕ) → SlotWord → Bool
covers s (Slots first last) = nat_le first s && nat_le s last
covers s other = false

abbrev pub has_slot : (slot : ℕ) → List SlotWord → Bool
has_slot s ws = list_any (covers s) ws

-- the server that answers is a master, and the slot is its own
abbrev pub owns_slot : (slot : ℕ) → List NodeLine → Bool
owns_slot s ns = list_any (λ l. l.is_myself && l.is_master && has_slot s l.slots) ns

-- the slot is that of the server with this ID, which is a master
abbrev pub shows_owner : (name : List ℕ) → (slot : ℕ) → List NodeLine → Bool
shows_owner name s ns = list_any (λ l. is name l.name && l.is_master && has_slot s l.slots) ns

-- one of so many slots from this one on comes from the node, and another has taken it over
abbrev pub taken_within : RunHistory → Survey → (t first count : ℕ) → Bool
taken_within x v t first zero = false
taken_within x v t first (suc k) = is_some (taken_from x v t first) || taken_within x v t (suc first) k

-- the word claims such a slot
abbrev pub claims_taken : RunHistory → Survey → (t : ℕ) → SlotWord → Bool
claims_taken x v t (Slots first last) = taken_within x v t first (suc last - first)
claims_taken x v t other = false

abbrev pub claims_any : RunHistory → Survey → (t : ℕ) → List SlotWord → Bool
claims_any x v t ws = list_any (claims_taken x v t) ws

-- the server that answers claims such a slot
abbrev pub still_claims : RunHistory → Survey → (t : ℕ) → List NodeLine → Bool
still_claims x v t ls = list_any (λ l. l.is_myself && claims_any x v t l.slots) ls

-- both nodes take slots over, and one epoch is told of both
abbrev pub clash : List Server → (t : ℕ) → (receivers : List Bool) → List NodeLine → (y z : ℕ) → Bool
clash book t rs ns y z = takes t rs y && takes t rs z
    && same_epoch (epoch_named (server_at book y).name ns) (epoch_named (server_at book z).name ns)

abbrev pub IsApart : List Server → (t : ℕ) → (receivers : List Bool) → List NodeLine → (y : ℕ) → Type 0
IsApart book t rs ns y = (z : ℕ) → z < y → clash book t rs ns y z ≡ false

abbrev pub AreApart : List Server → (t : ℕ) → (receivers : List Bool) → List NodeLine → Type 0
AreApart book t rs ns = (y : ℕ) → y < length book → IsApart book t rs ns y

-- The node claims no slot any more that another one took over from it, and it has heard of epochs of which no two are
-- the same.
pub record ShowsNews (x : PortSetup) (history : RunHistory) (t : ℕ) (ns : List NodeLine) : Type 0 where
  pub slots : still_claims history x.survey t ns ≡ false
  pub epochs : AreApart x.book t history.receivers ns

-- ---- looks

-- the run ends here, and this is said
abbrev pub StopsWith : (words : List ℕ) → PortStop → Type 0
StopsWith words h = (h.fault ≡ Wire) × (h.said ≡ Some words)

-- the reply lists these nodes
abbrev pub Lists : Reply → List NodeLine → Type 0
Lists (reply.Bulk t) ns = nodes_of_text t ≡ Some ns
Lists other ns = ⊥

module _ {L : Type 0} (asks : Question → List L → (node : ℕ) → Result Reply PortStop → List L → Type 0)
    (login : Option Credentials) where
  -- a server is asked for its nodes: these are its lines, or there is a reason why there are none
  abbrev pub LooksAt : Question → List L → (node : ℕ) → Result (List NodeLine) PortStop → List L → Type 0
  LooksAt q links n (Ok ns) links' = (r : Reply) × asks q links n (Ok r) links' × Lists r ns
  LooksAt q links n (Err h) links' = asks q links n (Err h) links'
      ⊎ ((r : Reply) × asks q links n (Ok r) links' × IsNoList login n r h)

  -- a server is asked for its role: whether it is a master, or why that is not known
  abbrev pub AsksRole : List L → (node : ℕ) → Result Bool PortStop → List L → Type 0
  AsksRole links n (Ok b) links' = (r : Reply) × asks role_question links n (Ok r) links' × TellsRole r b
  AsksRole links n (Err h) links' = asks role_question links n (Err h) links'
      ⊎ ((r : Reply) × asks role_question links n (Ok r) links' × IsNoRole login n r h)

  module _ (q : Question) (Shows : List NodeLine → Type 0) (n : ℕ) where
    -- one look, and whether it shows what is waited for
    abbrev pub LookTurn : List L → Result Bool PortStop → List L → Type 0
    LookTurn links (Ok b) links' = (ns : List NodeLine) × LooksAt q links n (Ok ns) links' × (IsTrue b ↔ Shows ns)
    LookTurn links (Err h) links' = LooksAt q links n (Err h) links'

    -- so many looks that do not
    abbrev pub LookTurns : (turns : ℕ) → List L → List L → Type 0
    LookTurns zero links links' = links' ≡ links
    LookTurns (suc k) links links' = (mid : List L) × LookTurns k links mid × LookTurn mid (Ok false) links'

    -- looks that do not, and then a last one
    abbrev pub LastLook : List L → Result Bool PortStop → List L → Type 0
    LastLook links r links' = (k : ℕ) × (mid : List L) × LookTurns k links mid × LookTurn mid r links'

    -- The wait: its last look shows it. Or it does not, and this is said, or it was cut short.
    abbrev pub LooksUntil : (words : List ℕ) → List L → Result (Unit {0}) PortStop → List L → Type 0
    LooksUntil words links (Ok u) links' = LastLook links (Ok true) links'
    LooksUntil words links (Err h) links' = LastLook links (Err h) links'
        ⊎ (LastLook links (Ok false) links' × StopsWith words h)
