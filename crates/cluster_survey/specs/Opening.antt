-- New connections to servers, on which the credentials are shown before anything else.
use Rattle.std.specs.Prelude.{◌≡◌, ◌≢◌, ◌⊎◌, true, false, [], Option, Some, None, Ok, Err}
use Rattle.std.specs.declared.net.socket_addr.SocketAddrV4.{SocketAddrV4}
use Rattle.cluster_admin.specs.declared.port_fault.PortFault.{PortFault}
use Rattle.cluster_admin.specs.declared.port_fault.PortFault.TheVariants as port
use Rattle.cluster_survey.specs.declared.cluster_fault.ClusterFault.{ClusterFault}
use Rattle.cluster_survey.specs.declared.cluster_fault.ClusterFault.TheVariants.{NoAnswer, NoConnection, NoDescriptor}
use Rattle.cluster_survey.specs.declared.cluster_fault.ClusterFault.TheVariants.{NotLetIn, Survey}
use Rattle.cluster_views.specs.declared.fault.SurveyFault.TheVariants as fault
use Rattle.server_commands.specs.Spelling.{auth_request}
use Rattle.server_commands.specs.declared.credentials.Credentials.{Credentials}
use Rattle.server_links.specs.Links.{LogsIn}
use Rattle.server_links.specs.Streams.{Streams}
use Rattle.server_links.specs.declared.link.Link as link
use Rattle.server_links.specs.declared.unreached.Unreached.{Unreached}
use Rattle.server_links.specs.declared.unreached.Unreached.TheVariants as cause

-- what is told of an address that can't be reached
abbrev pub unreached_at : SocketAddrV4 → Unreached → ClusterFault
unreached_at a cause.Silent = NoConnection a
unreached_at a cause.NoDescriptor = NoDescriptor a

-- both ends were reached at the address, and nothing went over the connection yet
pub record IsNewTo {I O : Type 0} (reaches : SocketAddrV4 → I → O → Type 0) (a : SocketAddrV4) (l : link.Link I O)
    : Type 0 where
  pub reached : reaches a l.wire.incoming.reader l.wire.writer
  pub blank : l.wire.incoming.unread.items ≡ []
  pub there : l.fault ≡ None

module _ {I O : Type 0} (by : Streams I O) where
  -- the credentials are shown, if there are some, and the server lets the connection in
  abbrev pub IsLetIn : Option Credentials → link.Link I O → link.Link I O → Type 0
  IsLetIn None l l' = l' ≡ l
  IsLetIn (Some c) l l' = LogsIn by (auth_request c) l (Ok true) l'

  -- they are shown, and this is why nothing more goes over the connection
  abbrev pub IsShut : Credentials → SocketAddrV4 → link.Link I O → ClusterFault → link.Link I O → Type 0
  IsShut c a l (NotLetIn b) l' = (b ≡ a) × LogsIn by (auth_request c) l (Ok false) l'
  IsShut c a l (NoAnswer b) l' =
      (b ≡ a) × (f : PortFault) × (f ≢ port.Memory) × LogsIn by (auth_request c) l (Err f) l'
  IsShut c a l (Survey f) l' = f ≡ fault.Memory
  IsShut c a l other l' = ⊥

-- What is known of new connections: the ends that an address may have, which addresses can't be reached, what a reader
-- gives and a writer takes, and the credentials.
module _ {I O : Type 0} (reaches : SocketAddrV4 → I → O → Type 0) (refuses : SocketAddrV4 → Unreached → Type 0)
    (by : Streams I O) (k : Option Credentials) where
  -- a new connection to the address, which the server has let in
  abbrev pub IsOpenTo : SocketAddrV4 → link.Link I O → Type 0
  IsOpenTo a l' = (l : link.Link I O) × IsNewTo reaches a l × IsLetIn by k l l'

  -- Why there is none: the address can't be reached, or the server does not let a new connection in, or out of memory.
  abbrev pub IsUnopened : SocketAddrV4 → ClusterFault → Type 0
  IsUnopened a e = ((u : Unreached) × (e ≡ unreached_at a u) × refuses a u) ⊎ (e ≡ Survey fault.Memory)
      ⊎ ((c : Credentials) × (k ≡ Some c) × (l l' : link.Link I O) × IsNewTo reaches a l × IsShut by c a l e l')
