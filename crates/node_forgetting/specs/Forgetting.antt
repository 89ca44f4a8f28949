-- What is said where a node is to be forgotten, with the status of that.
use Rattle.std.specs.Prelude.{◌≡◌, ◌⊎◌, ◌==◌, ⊤, ℕ, cond, List, [], ◌∷◌, ◌++◌, Option, None, Some, length}
use Rattle.cluster_admin.specs.Surveys.{Survey}
use Rattle.cluster_inspection.specs.Starts.{IsExpectedBy, SaysNoStart}
use Rattle.listed_nodes.specs.declared.node_line.NodeLine.{NodeLine}
use Rattle.cluster_survey.specs.Found.{IsFoundBeside}
use Rattle.command_words.specs.declared.usage.ForgetWords.{ForgetWords}
use Rattle.server_commands.specs.Servers.{server_at}
use Rattle.server_commands.specs.declared.book.Server.{Server}
use Rattle.server_commands.specs.declared.credentials.Credentials.{Credentials}
use Rattle.transcripts.specs.OutcomeTexts.{refused_text}
use Rattle.node_forgetting.specs.Holding.{hold}
use Rattle.node_forgetting.specs.Naming.{node_named}
use Rattle.node_forgetting.specs.Others.{others}
use Rattle.node_forgetting.specs.Telling.{AreTold, Asking}
use Rattle.node_forgetting.specs.Texts.{follower_text, forgotten_line, hold_text}
use Rattle.node_forgetting.specs.declared.hold.Hold.{Hold}

module _ (asking : Asking) (k : Option Credentials) (node : ℕ) (server : Server) where
  -- All these nodes were told. The status is 0 where none is left that was not.
  abbrev pub SaysTold : List Server → (status : ℕ) → (text : List ℕ) → Type 0
  SaysTold ss status text = (told : ℕ) × (untold : List ℕ) × AreTold asking k server.name ss (length ss) told untold
      × (status ≡ cond (told == length ss) 0 1)
      × (text ≡ untold ++ forgotten_line node server told (length ss))

  -- All others in these lines were told; or the lines are none of a cluster.
  abbrev pub SaysOthers : List NodeLine → (status : ℕ) → (text : List ℕ) → Type 0
  SaysOthers lines status text = SaysTold (others server.name lines) status text ⊎ SaysNoStart status text

  -- the node listed these; or it lists none
  abbrev pub SaysListed : (status : ℕ) → (text : List ℕ) → Type 0
  SaysListed status text = ((lines : List NodeLine) × asking.lists node lines × SaysOthers lines status text)
      ⊎ SaysNoStart status text

  -- these are its replicas: the first of them is told, and only where there is none other nodes are told anything
  abbrev pub SaysFollowed : List NodeLine → (status : ℕ) → (text : List ℕ) → Type 0
  SaysFollowed [] status text = SaysListed status text
  SaysFollowed (r ∷ rs) status text = (status ≡ 1) × (text ≡ refused_text (follower_text node r))

  -- the node told its replicas; or it does not
  abbrev pub SaysFree : (status : ℕ) → (text : List ℕ) → Type 0
  SaysFree status text = ((rs : List NodeLine) × asking.followers server.name node rs × SaysFollowed rs status text)
      ⊎ SaysNoStart status text

  -- this still holds the node, which is told, and nobody was asked anything; or nothing does
  abbrev pub SaysHeld : Option Hold → (status : ℕ) → (text : List ℕ) → Type 0
  SaysHeld None status text = SaysFree status text
  SaysHeld (Some h) status text = (status ≡ 1) × (text ≡ refused_text (hold_text h))

  -- by what the servers tell
  abbrev pub SaysForgotten : Survey → (status : ℕ) → (text : List ℕ) → Type 0
  SaysForgotten v status text = SaysHeld (hold v node) status text

-- where the servers are not known
abbrev pub any_asking : Asking
any_asking = record {
  followers = λ id n rs. ⊤;
  lists = λ n lines. ⊤;
  answers = λ id a x. ⊤;
  unopened = λ a e. ⊤;
  late = ⊤;
}

-- such a cluster was found, and the names stand for the nodes that are expected
pub record IsFoundFor (g : ForgetWords) (b : List Server) (v : Survey) : Type 0 where
  pub left : List Server
  pub epochs : List ℕ
  pub links : ℕ
  pub found : IsFoundBeside left b v epochs links
  pub expected : IsExpectedBy g.cluster.expect b

-- there is no survey; or there is one, the words name a node of it, and this is said of that
abbrev pub IsForgetAnswer : ForgetWords → (status : ℕ) → (text : List ℕ) → Type 0
IsForgetAnswer g status text = SaysNoStart status text
    ⊎ ((b : List Server) × (v : Survey) × (node : ℕ) × (k : Option Credentials) × IsFoundFor g b v
    × (node_named (length b) g ≡ Some node) × SaysForgotten any_asking k node (server_at b node) v status text)

-- the words name no node of the cluster
abbrev pub NamesNoNode : ForgetWords → Type 0
NamesNoNode g = (b : List Server) × (v : Survey) × IsFoundFor g b v × (node_named (length b) g ≡ None)
