-- Connections to all servers of a cluster, each to its own server.
use Rattle.std.specs.Prelude.{◌≡◌, ◌⊎◌, ℕ, ◌<◌, List, Option, Some, length, slice_index_or}
use Rattle.std.specs.Net.Addr.{IsIpv4OfBits}
use Rattle.std.specs.Net.Socket.{v4_ip, v4_port}
use Rattle.std.specs.declared.net.socket_addr.SocketAddrV4.{SocketAddrV4}
use Rattle.cluster_survey.specs.Addresses.{ipv4_in}
use Rattle.cluster_survey.specs.Opening.{IsOpenTo, IsUnopened}
use Rattle.cluster_survey.specs.declared.cluster_fault.ClusterFault.{ClusterFault}
use Rattle.cluster_survey.specs.declared.cluster_fault.ClusterFault.TheVariants.{Survey}
use Rattle.cluster_views.specs.declared.fault.SurveyFault.TheVariants as fault
use Rattle.server_commands.specs.Servers.{server_at}
use Rattle.server_commands.specs.declared.book.Server.{Server}
use Rattle.server_commands.specs.declared.credentials.Credentials.{Credentials}
use Rattle.server_links.specs.declared.link.Link as link
use Rattle.server_links.specs.Streams.{Streams}
use Rattle.server_links.specs.declared.unreached.Unreached.{Unreached}

-- this is where the server serves clients: its host's address, and its port
pub record IsAddressOf (s : Server) (a : SocketAddrV4) : Type 0 where
  pub bits : ℕ
  pub host : ipv4_in s.host ≡ Some bits
  pub ip : IsIpv4OfBits (v4_ip a) bits
  pub port : v4_port a ≡ s.port

module _ {I O : Type 0} (reaches : SocketAddrV4 → I → O → Type 0) (refuses : SocketAddrV4 → Unreached → Type 0)
    (by : Streams I O) (k : Option Credentials) where
  -- a connection that was opened to the server
  abbrev pub IsLinked : Server → link.Link I O → Type 0
  IsLinked s l = (a : SocketAddrV4) × IsAddressOf s a × IsOpenTo reaches refuses by k a l

  -- there is none, and this is why
  abbrev pub IsUnlinked : Server → ClusterFault → Type 0
  IsUnlinked s e = (a : SocketAddrV4) × IsAddressOf s a × IsUnopened reaches refuses by k a e

  -- connections to so many servers, the first of the book, in its order
  pub record AreLinked (b : List Server) (count : ℕ) (links : List (link.Link I O)) : Type 0 where
    pub many : length links ≡ count
    pub each : (n : ℕ) (d : link.Link I O) → n < count → IsLinked (server_at b n) (slice_index_or links n d)

  -- there are connections to the first servers, and none to the next one; or out of memory
  abbrev pub AreUnlinked : List Server → ClusterFault → Type 0
  AreUnlinked b e = (e ≡ Survey fault.Memory) ⊎ ((count : ℕ) × (links : List (link.Link I O)) × (count < length b)
      × AreLinked b count links × IsUnlinked (server_at b count) e)
