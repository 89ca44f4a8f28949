-- The first of some servers that lists the nodes of its cluster.
use Rattle.std.specs.Prelude.{◌≡◌, ◌⊎◌, ⊤, List, [], ◌∷◌, Ok, Err, Option}
use Rattle.std.specs.declared.net.socket_addr.SocketAddrV4.{SocketAddrV4}
use Rattle.listed_nodes.specs.declared.node_line.NodeLine.{NodeLine}
use Rattle.cluster_survey.specs.Asking.{IsViewed}
use Rattle.cluster_survey.specs.Opening.{IsOpenTo, IsUnopened}
use Rattle.cluster_survey.specs.declared.cluster_fault.ClusterFault.{ClusterFault}
use Rattle.cluster_survey.specs.declared.cluster_fault.ClusterFault.TheVariants.{Named, NoAnswer, Strange, Survey}
use Rattle.cluster_views.specs.declared.fault.SurveyFault.{SurveyFault}
use Rattle.cluster_views.specs.declared.fault.SurveyFault.TheVariants as fault
use Rattle.server_commands.specs.Spelling.{nodes_request}
use Rattle.server_commands.specs.declared.credentials.Credentials.{Credentials}
use Rattle.server_links.specs.Links.{Exchanges}
use Rattle.server_links.specs.Streams.{Streams}
use Rattle.server_links.specs.declared.link.Link as link
use Rattle.server_links.specs.declared.unreached.Unreached.{Unreached}

-- how the fault of a view is told of a server that has an address and no number yet
abbrev pub told_at : SocketAddrV4 → SurveyFault → ClusterFault
told_at a (fault.NoAnswer n) = NoAnswer a
told_at a (fault.Strange n) = Strange a
told_at a (fault.Named n e) = Named a e
told_at a other = Survey other

module _ {I O : Type 0} (reaches : SocketAddrV4 → I → O → Type 0) (refuses : SocketAddrV4 → Unreached → Type 0)
    (by : Streams I O) (k : Option Credentials) where
  -- a connection was opened to the address, and the server there lists these nodes
  abbrev pub Lists : SocketAddrV4 → List NodeLine → Type 0
  Lists a lines = (l l' : link.Link I O) × IsOpenTo reaches refuses by k a l
      × IsViewed (Exchanges by nodes_request) 0 l (Ok lines) l'

  -- none was opened, or the server there lists no nodes
  abbrev pub IsUnlisted : SocketAddrV4 → ClusterFault → Type 0
  IsUnlisted a e = IsUnopened reaches refuses by k a e
      ⊎ ((l l' : link.Link I O) × (f : SurveyFault) × IsOpenTo reaches refuses by k a l
      × IsViewed (Exchanges by nodes_request) 0 l (Err f) l' × (e ≡ told_at a f))

  -- the first of the addresses whose server lists nodes lists these; the servers before it were asked in vain
  abbrev pub FirstLists : List SocketAddrV4 → List NodeLine → Type 0
  FirstLists [] lines = ⊥
  FirstLists (a ∷ others) lines =
      Lists a lines ⊎ ((e : ClusterFault) × IsUnlisted a e × FirstLists others lines)

  -- all were asked in vain
  abbrev pub NoneLists : List SocketAddrV4 → Type 0
  NoneLists [] = ⊤
  NoneLists (a ∷ others) = ((e : ClusterFault) × IsUnlisted a e) × NoneLists others

  -- all were, and this was wrong with the first
  abbrev pub FirstFails : List SocketAddrV4 → ClusterFault → Type 0
  FirstFails [] e = ⊥
  FirstFails (a ∷ others) e = IsUnlisted a e × NoneLists others
