-- How the other nodes are told to forget a node.
use Rattle.std.specs.Prelude.{◌≡◌, ◌⊎◌, ℕ, zero, suc, ◌+◌, List, [], ◌++◌, Option, None, Some, Ok, codes, slice_get}
use Rattle.std.specs.declared.net.socket_addr.SocketAddrV4.{SocketAddrV4}
use Rattle.listed_nodes.specs.declared.node_line.NodeLine.{NodeLine}
use Rattle.cluster_survey.specs.Addresses.{ipv4_in}
use Rattle.cluster_survey.specs.Asking.{IsViewed}
use Rattle.cluster_survey.specs.ClusterFaults as cluster
use Rattle.cluster_survey.specs.Linking.{IsAddressOf}
use Rattle.cluster_survey.specs.Opening.{IsOpenTo, IsUnopened}
use Rattle.cluster_survey.specs.declared.cluster_fault.ClusterFault.{ClusterFault}
use Rattle.server_commands.specs.Spelling.{nodes_request}
use Rattle.server_commands.specs.declared.book.Server.{Server}
use Rattle.server_commands.specs.declared.credentials.Credentials.{Credentials}
use Rattle.server_links.specs.Exchanges.{Answer}
use Rattle.server_links.specs.Links.{Exchanges}
use Rattle.server_links.specs.Streams.{Streams}
use Rattle.server_links.specs.declared.link.Link as link
use Rattle.server_links.specs.declared.unreached.Unreached.{Unreached}
use Rattle.server_replicas.specs.Asking.{AsksReplicas, IsListing}
use Rattle.node_forgetting.specs.Outcomes.{forget_request, reason_in}
use Rattle.node_forgetting.specs.Texts.{outcome_line}

-- What is known of the servers that were asked: which replicas a node told, which nodes it listed, what was answered to
-- CLUSTER FORGET over a new connection to an address, and to which address there was none; and that it was too late.
pub record Asking : Type 1 where
  pub followers : (id : List ℕ) → (node : ℕ) → List NodeLine → Type 0
  pub lists : (node : ℕ) → List NodeLine → Type 0
  pub answers : (id : List ℕ) → SocketAddrV4 → Answer → Type 0
  pub unopened : SocketAddrV4 → ClusterFault → Type 0
  pub late : Type 0

-- it is what went over connections
abbrev pub asking_of : {I O : Type 0} → (reaches : SocketAddrV4 → I → O → Type 0)
    → (refuses : SocketAddrV4 → Unreached → Type 0) → Streams I O → Option Credentials → (late : Type 0) → Asking
asking_of {I} {O} reaches refuses by k late = record {
  followers = λ id n rs. (links : List (link.Link I O)) × (links' : List (link.Link I O))
      × IsListing (AsksReplicas by id) n links rs links';
  lists = λ n lines. (l : link.Link I O) × (l' : link.Link I O)
      × IsViewed (Exchanges by nodes_request) n l (Ok lines) l';
  answers = λ id a x. (l : link.Link I O) × (l' : link.Link I O) × IsOpenTo reaches refuses by k a l
      × Exchanges by (forget_request id) l x l';
  unopened = IsUnopened reaches refuses by k;
  late = late;
}

-- a node for which there is no reason is told
abbrev pub told_by : Option (List ℕ) → ℕ
told_by None = 1
told_by (Some reason) = 0

module _ (asking : Asking) (k : Option Credentials) (id : List ℕ) where
  -- Why a node is not told to forget the one with this ID, if it is not: it was too late, it has no address, there is
  -- no connection to it, or this is its answer.
  abbrev pub IsOutcome : Server → Option (List ℕ) → Type 0
  IsOutcome s r = (asking.late × (r ≡ Some (codes "the time is over")))
      ⊎ (((ipv4_in s.host ≡ None) × (r ≡ Some (codes "it has no IPv4 address")))
      ⊎ ((a : SocketAddrV4) × IsAddressOf s a
      × (((e : ClusterFault) × asking.unopened a e × (r ≡ Some (cluster.text_of e)))
      ⊎ ((x : Answer) × asking.answers id a x × (r ≡ reason_in k x)))))

  -- The first of these nodes, so many, were told one after the other, each once: so many of them have forgotten the
  -- node, and these are the lines of the others.
  abbrev pub AreTold : List Server → (count told : ℕ) → (text : List ℕ) → Type 0
  AreTold ss zero told text = (told ≡ 0) × (text ≡ [])
  AreTold ss (suc n) told text = (before : ℕ) × (a : List ℕ) × (s : Server) × (r : Option (List ℕ))
      × AreTold ss n before a × (slice_get ss n ≡ Some s) × IsOutcome s r
      × (told ≡ before + told_by r) × (text ≡ a ++ outcome_line id s r)
