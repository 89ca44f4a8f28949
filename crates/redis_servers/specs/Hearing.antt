-- The wait for config epochs: whether one server has heard of another's (Redis Cluster specification, "Configuration
-- epoch"). A server that claims a slot with a lower epoch than the source's, since it has not heard of that one, is
-- answered by the source, takes the claim back, and deletes the slot's keys.
use Rattle.std.specs.Prelude.{◌≡◌, ◌⊎◌, ℕ, zero, suc, Bool, true, false, cond, ◌==◌, List, [], ◌∷◌, ◌++◌, codes}
use Rattle.std.specs.Prelude.{Option, Some, None, Result, Ok, Err}
use Rattle.byte_texts.specs.Words.{is}
use Rattle.listed_nodes.specs.Nodes.{nodes_of_text}
use Rattle.listed_nodes.specs.declared.node_line.NodeLine.{NodeLine}
use Rattle.cluster_admin.specs.declared.port_fault.PortFault.TheVariants.{Wire}
use Rattle.resp2_wire.specs.declared.reply.Reply.{Reply}
use Rattle.resp2_wire.specs.declared.reply.Reply.TheVariants as reply
use Rattle.server_commands.specs.declared.credentials.Credentials.{Credentials}
use Rattle.redis_servers.specs.Saying.{SaysUseless, node_word}
use Rattle.redis_servers.specs.declared.port_stop.PortStop.{PortStop}

-- the config epoch of the server with this ID, in a list that has it
abbrev pub epoch_named : (name : List ℕ) → List NodeLine → Option ℕ
epoch_named name [] = None
epoch_named name (x ∷ xs) = cond (is name x.name) (Some x.epoch) (epoch_named name xs)

-- the reply to CLUSTER NODES lists nodes, and this epoch of the server with this ID, or no such server
abbrev pub Tells : (name : List ℕ) → Reply → Option ℕ → Type 0
Tells name (reply.Bulk t) o = (ns : List NodeLine) × (nodes_of_text t ≡ Some ns) × (o ≡ epoch_named name ns)
Tells name other o = ⊥

-- the reply lists no nodes
abbrev pub ListsNone : Reply → Type 0
ListsNone (reply.Bulk t) = nodes_of_text t ≡ None
ListsNone other = Unit {0}

-- the node's reply is of no use, or memory ran out
abbrev pub IsNoList : Option Credentials → (node : ℕ) → Reply → PortStop → Type 0
IsNoList login n r h = (h.fault ≡ Wire) × SaysUseless (ListsNone r) login n r h.said

-- two epochs that are there, and are the same
abbrev pub same_epoch : Option ℕ → Option ℕ → Bool
same_epoch (Some own) (Some told) = own == told
same_epoch own told = false

-- `nT has not heard of nS's config epoch after 2 seconds`
unfoldable pub unheard_text : (source target : ℕ) → List ℕ
unheard_text s t =
    node_word t ++ (codes " has not heard of " ++ (node_word s ++ codes "'s config epoch after 2 seconds"))

module _ {L : Type 0} (asks : List L → (node : ℕ) → Result Reply PortStop → List L → Type 0) (login : Option Credentials)
    (name : List ℕ) where
  -- a server is asked for its nodes: what epoch it tells of the server with this ID, or why that is not known
  abbrev pub LooksUp : List L → ℕ → Result (Option ℕ) PortStop → List L → Type 0
  LooksUp links n (Ok o) links' = (r : Reply) × asks links n (Ok r) links' × Tells name r o
  LooksUp links n (Err h) links' = asks links n (Err h) links'
      ⊎ ((r : Reply) × asks links n (Ok r) links' × IsNoList login n r h)

  -- the source is asked for its own epoch, and then the target for what it knows of that: whether they agree, or why
  -- that is not known
  abbrev pub Turn : (source target : ℕ) → List L → Result Bool PortStop → List L → Type 0
  Turn s t links (Ok heard) links' = (own : Option ℕ) × (told : Option ℕ) × (mid : List L)
      × LooksUp links s (Ok own) mid × LooksUp mid t (Ok told) links' × (heard ≡ same_epoch own told)
  Turn s t links (Err h) links' = LooksUp links s (Err h) links'
      ⊎ ((own : Option ℕ) × (mid : List L) × LooksUp links s (Ok own) mid × LooksUp mid t (Err h) links')

  -- so many turns in which they do not agree
  abbrev pub Turns : (source target : ℕ) → (turns : ℕ) → List L → List L → Type 0
  Turns s t zero links links' = links' ≡ links
  Turns s t (suc k) links links' = (mid : List L) × Turns s t k links mid × Turn s t mid (Ok false) links'

  -- turns without agreement, and then a last one
  abbrev pub LastTurn : (source target : ℕ) → List L → Result Bool PortStop → List L → Type 0
  LastTurn s t links r links' = (k : ℕ) × (mid : List L) × Turns s t k links mid × Turn s t mid r links'

  -- The wait: its last turn shows agreement. Or it does not, and that is said in words, or it was cut short.
  abbrev pub Waits : (source target : ℕ) → List L → Result (Unit {0}) PortStop → List L → Type 0
  Waits s t links (Ok u) links' = LastTurn s t links (Ok true) links'
  Waits s t links (Err h) links' = LastTurn s t links (Err h) links'
      ⊎ (LastTurn s t links (Ok false) links' × (h.fault ≡ Wire) × (h.said ≡ Some (unheard_text s t)))
