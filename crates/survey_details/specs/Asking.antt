-- How masters are asked for their keys and their replicas.
use Rattle.std.specs.Prelude.{◌≡◌, ℕ, List, Option, None, Some, Ok}
use Rattle.listed_nodes.specs.declared.node_line.NodeLine.{NodeLine}
use Rattle.cluster_views.specs.declared.fault.SurveyFault.{SurveyFault}
use Rattle.server_commands.specs.Servers.{server_at}
use Rattle.server_commands.specs.declared.book.Server.{Server}
use Rattle.server_infos.specs.Asking.{AsksFigures, IsTold}
use Rattle.server_infos.specs.declared.figures.Figures.{Figures}
use Rattle.server_links.specs.Asking.{AsksAt}
use Rattle.server_links.specs.Streams.{Streams}
use Rattle.server_links.specs.declared.link.Link as link
use Rattle.server_replicas.specs.Asking.{AsksReplicas, IsListing, IsUnlisted}
use Rattle.survey_details.specs.Masters.{Telling}

module _ {I O : Type 0} (by : Streams I O) where
  -- over its connection the master was asked for its figures (INFO), and told this number of keys
  abbrev pub TellsKeys : (node : ℕ) → Option ℕ → Type 0
  TellsKeys n keys = (links : List (link.Link I O)) × (links' : List (link.Link I O)) × (figures : Figures)
      × AsksAt (IsTold (AsksFigures by) n) links n (Ok figures) links' × (keys ≡ figures.keys)

  -- over its connection it was asked for the replicas of its own ID (CLUSTER REPLICAS), and told these, or told none
  abbrev pub TellsReplicas : (book : List Server) (node : ℕ) → Option (List NodeLine) → Type 0
  TellsReplicas book n (Some replicas) = (links : List (link.Link I O)) × (links' : List (link.Link I O))
      × IsListing (AsksReplicas by (server_at book n).name) n links replicas links'
  TellsReplicas book n None = (links : List (link.Link I O)) × (links' : List (link.Link I O)) × (e : SurveyFault)
      × IsUnlisted (AsksReplicas by (server_at book n).name) n links e links'

  -- what the masters of this book tell
  abbrev pub telling_of : List Server → Telling
  telling_of book = record { keys = TellsKeys; replicas = TellsReplicas book }
