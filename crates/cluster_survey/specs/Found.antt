-- A cluster of servers that was found.
use Rattle.std.specs.Prelude.{◌≡◌, ◌⊎◌, ℕ, List, Option, length}
use Rattle.std.specs.declared.net.socket_addr.SocketAddrV4.{SocketAddrV4}
use Rattle.listed_nodes.specs.declared.node_line.NodeLine.{NodeLine}
use Rattle.cluster_survey.specs.Agreeing.{Agree, Disagree}
use Rattle.cluster_survey.specs.Arranging.{AreArranged, AreUnarranged}
use Rattle.cluster_survey.specs.Linking.{AreLinked, AreUnlinked}
use Rattle.cluster_survey.specs.Listing.{FirstFails, FirstLists}
use Rattle.cluster_survey.specs.Masters.{left_out}
use Rattle.cluster_views.specs.Surveying.{IsSurveyed, Views, epochs_of}
use Rattle.cluster_survey.specs.declared.cluster_fault.ClusterFault.{ClusterFault}
use Rattle.cluster_survey.specs.declared.cluster_fault.ClusterFault.TheVariants.{Survey}
use Rattle.cluster_views.specs.declared.fault.SurveyFault.{SurveyFault}
use Rattle.cluster_admin.specs.Surveys as surveys
use Rattle.node_names.specs.Names.{Names}
use Rattle.server_commands.specs.Spelling.{nodes_request}
use Rattle.server_commands.specs.declared.book.Server.{Server}
use Rattle.server_commands.specs.declared.credentials.Credentials.{Credentials}
use Rattle.server_links.specs.Links.{Exchanges}
use Rattle.server_links.specs.Streams.{Streams}
use Rattle.server_links.specs.declared.link.Link as link
use Rattle.server_links.specs.declared.unreached.Unreached.{Unreached}

-- Its nodes are all masters that some server listed, in the order of some names or of none, and each of them told the
-- survey.
pub record IsFound (b : List Server) (v : surveys.Survey) (epochs : List ℕ) (links : ℕ) : Type 0 where
  pub lines : List NodeLine
  pub names : Names
  pub masters : AreArranged lines names b
  pub views : Views
  pub count : length views ≡ length b
  pub surveyed : IsSurveyed b views v
  pub told : epochs ≡ epochs_of b views
  pub linked : links ≡ length b

-- The same, and these masters that some server listed were left out.
pub record IsFoundBeside (left b : List Server) (v : surveys.Survey) (epochs : List ℕ) (links : ℕ) : Type 0 where
  pub found : IsFound b v epochs links
  pub passed : left ≡ left_out found.lines

module _ {I O : Type 0} (reaches : SocketAddrV4 → I → O → Type 0) (refuses : SocketAddrV4 → Unreached → Type 0)
    (by : Streams I O) (k : Option Credentials) where
  -- a connection was opened to each of these masters, and over these they agree
  abbrev pub AreReached : List Server → List (link.Link I O) → surveys.Survey → (epochs : List ℕ) → Type 0
  AreReached b links v epochs = (first : List (link.Link I O))
      × AreLinked reaches refuses by k b (length b) first
      × Agree (Exchanges by nodes_request) b first v epochs links

  -- One of them can't be reached, or they do not agree. `over` says that the time has passed in which they are asked
  -- again.
  abbrev pub AreUnreached : (over : Type 0) → List Server → ClusterFault → Type 0
  AreUnreached over b e = AreUnlinked reaches refuses by k b e
      ⊎ ((f : SurveyFault) × (e ≡ Survey f) × (first links : List (link.Link I O))
      × AreLinked reaches refuses by k b (length b) first
      × Disagree (Exchanges by nodes_request) b over first f links)

  -- the masters in these lines were reached, in the order of these names, but for those that are left out
  abbrev pub IsFoundIn : List NodeLine → Names → List Server → List (link.Link I O) → surveys.Survey
      → (epochs : List ℕ) → (left : List Server) → Type 0
  IsFoundIn lines names b links v epochs left =
      AreArranged lines names b × AreReached b links v epochs × (left ≡ left_out lines)

  -- the masters in these lines are none of a cluster, or not those of the names, or were not reached
  abbrev pub IsUnfoundIn : (over : Type 0) → List NodeLine → Names → ClusterFault → Type 0
  IsUnfoundIn over lines names e = AreUnarranged lines names e
      ⊎ ((b : List Server) × AreArranged lines names b × AreUnreached over b e)

  -- the cluster was found in what the first of the addresses listed whose server lists nodes
  abbrev pub IsFoundBy : List SocketAddrV4 → Names → List Server → List (link.Link I O) → surveys.Survey
      → (epochs : List ℕ) → (left : List Server) → Type 0
  IsFoundBy addresses names b links v epochs left = (lines : List NodeLine)
      × FirstLists reaches refuses by k addresses lines × IsFoundIn lines names b links v epochs left

  -- no server lists nodes, or no cluster was found in what one of them listed
  abbrev pub IsUnfoundBy : (over : Type 0) → List SocketAddrV4 → Names → ClusterFault → Type 0
  IsUnfoundBy over addresses names e = FirstFails reaches refuses by k addresses e
      ⊎ ((lines : List NodeLine) × FirstLists reaches refuses by k addresses lines × IsUnfoundIn over lines names e)
