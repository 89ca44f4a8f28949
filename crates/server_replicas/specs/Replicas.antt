-- What replicas lack of the marks of their masters (Valkey).
use Rattle.std.specs.Prelude.{◌≡◌, ◌⊎◌, ◌<◌, ⊤, ℕ, zero, suc, false, List, [], ◌++◌, length}
use Rattle.std.specs.Prelude.{Option, None, Some, slice_get}
use Rattle.std.specs.Net.Addr.{IsIpv4OfBits}
use Rattle.std.specs.Net.Socket.{v4_ip, v4_port}
use Rattle.std.specs.declared.net.socket_addr.SocketAddrV4.{SocketAddrV4}
use Rattle.listed_nodes.specs.declared.node_line.NodeLine.{NodeLine}
use Rattle.cluster_survey.specs.Addresses.{ipv4_in}
use Rattle.cluster_survey.specs.Listing as listing
use Rattle.cluster_views.specs.Surveying.{has_mark}
use Rattle.cluster_survey.specs.declared.cluster_fault.ClusterFault.{ClusterFault}
use Rattle.cluster_views.specs.declared.fault.SurveyFault.{SurveyFault}
use Rattle.server_links.specs.Exchanges.{Answer}
use Rattle.cluster_admin.specs.Surveys.{Survey}
use Rattle.server_commands.specs.Servers.{server_at}
use Rattle.server_commands.specs.declared.book.Server.{Server}
use Rattle.server_commands.specs.declared.credentials.Credentials.{Credentials}
use Rattle.server_links.specs.Streams.{Streams}
use Rattle.server_links.specs.declared.link.Link as link
use Rattle.server_links.specs.declared.unreached.Unreached.{Unreached}
use Rattle.server_replicas.specs.Asking.{AsksReplicas, IsListing, IsUnlisted}
use Rattle.server_replicas.specs.Telling.{lacks_text, silent_line, untold_line}
use Rattle.server_versions.specs.declared.versions.ServerVersion.{ServerVersion}
use Rattle.server_versions.specs.declared.versions.ServerVersion.TheVariants.{Redis, Untold, Valkey}

abbrev pub IsValkey : ServerVersion → Type 0
IsValkey (Valkey t) = ⊤
IsValkey (Redis t) = ⊥
IsValkey Untold = ⊥

-- the replica serves clients at this address
pub record IsAt (r : NodeLine) (a : SocketAddrV4) : Type 0 where
  pub bits : ℕ
  pub host : ipv4_in r.host ≡ Some bits
  pub ip : IsIpv4OfBits (v4_ip a) bits
  pub port : v4_port a ≡ r.port

-- how a node is asked for its replicas, and what a server at an address lists, or why it lists nothing
pub record Asking (L : Type 0) : Type 1 where
  pub replicas : (id : List ℕ) → L → Answer → L → Type 0
  pub lists : SocketAddrV4 → List NodeLine → Type 0
  pub fails : SocketAddrV4 → ClusterFault → Type 0

abbrev pub asking_of : {I O : Type 0} → (reaches : SocketAddrV4 → I → O → Type 0)
    → (refuses : SocketAddrV4 → Unreached → Type 0) → Streams I O → Option Credentials → Asking (link.Link I O)
asking_of reaches refuses by k = record {
  replicas = AsksReplicas by;
  lists = listing.Lists reaches refuses by k;
  fails = listing.IsUnlisted reaches refuses by k;
}

module _ {L : Type 0} (asking : Asking L) where
  module _ (v : Survey) (n : ℕ) where
    -- the replica was asked for its nodes, and this is said of the marks that it shows; or it told nothing
    abbrev pub IsReplicaText : NodeLine → (text : List ℕ) → Type 0
    IsReplicaText r t = ((ipv4_in r.host ≡ None) × (t ≡ silent_line n r))
        ⊎ ((a : SocketAddrV4) × IsAt r a
        × (((told : List NodeLine) × asking.lists a told × (t ≡ lacks_text v n r told))
        ⊎ ((e : ClusterFault) × asking.fails a e × (t ≡ silent_line n r))))

    -- so were the first of them, so many, one after the other
    abbrev pub AreReplicaTexts : List NodeLine → (count : ℕ) → (text : List ℕ) → Type 0
    AreReplicaTexts rs zero t = t ≡ []
    AreReplicaTexts rs (suc k) t = (a : List ℕ) × (b : List ℕ) × (r : NodeLine) × (t ≡ a ++ b)
        × AreReplicaTexts rs k a × (slice_get rs k ≡ Some r) × IsReplicaText r b

  module _ (book : List Server) (v : Survey) where
    -- the node was asked for its replicas, and these are their texts; or it told none
    abbrev pub AskedFor : (node : ℕ) → (text : List ℕ) → Type 0
    AskedFor n t = ((links : List L) × (links' : List L) × (rs : List NodeLine)
        × IsListing (asking.replicas (server_at book n).name) n links rs links'
        × AreReplicaTexts v n rs (length rs) t)
        ⊎ ((links : List L) × (links' : List L) × (e : SurveyFault)
        × IsUnlisted (asking.replicas (server_at book n).name) n links e links' × (t ≡ untold_line n))

    -- the node is none of Valkey, or has no mark, and nothing is said; or its replicas were asked
    abbrev pub IsNodeText : (node : ℕ) → ServerVersion → (text : List ℕ) → Type 0
    IsNodeText n version t = ((IsValkey version → ⊥) × (t ≡ []))
        ⊎ ((((s : ℕ) → s < 16384 → has_mark v s n ≡ false) × (t ≡ []))
        ⊎ (IsValkey version × AskedFor n t))

    -- so it is of the first nodes, so many, with these versions
    abbrev pub AreNodeTexts : List ServerVersion → (count : ℕ) → (text : List ℕ) → Type 0
    AreNodeTexts xs zero t = t ≡ []
    AreNodeTexts xs (suc k) t = (a : List ℕ) × (b : List ℕ) × (x : ServerVersion) × (t ≡ a ++ b)
        × AreNodeTexts xs k a × (slice_get xs k ≡ Some x) × IsNodeText k x b
