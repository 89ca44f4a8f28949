-- The masters of a cluster in the order of a plan's names: the server that has the name of a node is that node.
use Rattle.std.specs.Prelude.{◌≡◌, ◌⊎◌, ℕ, ◌<◌, cond, nat_le, List, [], ◌∷◌, Option, Some, None, All, is_none, length}
use Rattle.std.specs.List.{list_any, swap}
use Rattle.byte_texts.specs.Words.{is}
use Rattle.listed_nodes.specs.declared.node_line.NodeLine.{NodeLine}
use Rattle.cluster_survey.specs.Masters.{AreMastersOf, IsMastersFault}
use Rattle.cluster_views.specs.Numbers.{first_given}
use Rattle.cluster_views.specs.Views.{number_of}
use Rattle.cluster_survey.specs.declared.cluster_fault.ClusterFault.{ClusterFault}
use Rattle.cluster_survey.specs.declared.cluster_fault.ClusterFault.TheVariants.{BeyondMasters, MissingNode, NoMaster}
use Rattle.cluster_survey.specs.declared.cluster_fault.ClusterFault.TheVariants.{Survey}
use Rattle.cluster_views.specs.declared.fault.SurveyFault.{SurveyFault}
use Rattle.node_names.specs.Names.{Names}
use Rattle.server_commands.specs.Servers.{server_at}
use Rattle.server_commands.specs.declared.book.Server.{Server}

-- the server at the place k, if there is one, and the server n stand in each other's place
abbrev pub placed : (n : ℕ) → (k : Option ℕ) → List Server → List Server
placed n None ss = ss
placed n (Some k) ss = swap ss k n

-- the node's name becomes that of the server at its place
abbrev pub put_at : ℕ × List ℕ → List Server → List Server
put_at p ss = placed p.0 (number_of ss p.1) ss

-- so does each name, one after the other
abbrev pub arranged : Names → List Server → List Server
arranged [] ss = ss
arranged (p ∷ names) ss = arranged names (put_at p ss)

-- what is said of a name that no master has
abbrev pub strange_name : List NodeLine → ℕ × List ℕ → ClusterFault
strange_name ls p = cond (list_any (λ l. is p.1 l.name) ls) (NoMaster p.0 p.1) (MissingNode p.0 p.1)

-- Why a name can't be put at its node's place among these servers, the masters in the lines: none of them has it, or
-- there is no such place.
abbrev pub name_fault : List NodeLine → List Server → ℕ × List ℕ → Option ClusterFault
name_fault ls ss p = cond (is_none (number_of ss p.1)) (Some (strange_name ls p))
    (cond (nat_le (length ss) p.0) (Some (BeyondMasters p.0 (length ss))) None)

-- why the first of the names that can't be put there can't
abbrev pub names_fault : List NodeLine → List Server → Names → Option ClusterFault
names_fault ls ss names = first_given (name_fault ls ss) names

-- these are all masters in the lines, in ascending order of address but for the names, each at its node's place
pub record AreArranged (ls : List NodeLine) (names : Names) (b : List Server) : Type 0 where
  pub ascending : List Server
  pub masters : AreMastersOf ls ascending
  pub fine : names_fault ls ascending names ≡ None
  pub whole : b ≡ arranged names ascending

-- the lines list no masters of a cluster, or no such masters as the names say
abbrev pub AreUnarranged : List NodeLine → Names → ClusterFault → Type 0
AreUnarranged ls names e = ((f : SurveyFault) × (e ≡ Survey f) × IsMastersFault ls f)
    ⊎ ((ascending : List Server) × AreMastersOf ls ascending × (names_fault ls ascending names ≡ Some e))

-- each node's server has the name
abbrev pub AreNamed : Names → List Server → Type 0
AreNamed names b = All (λ p. (p.0 < length b) × ((server_at b p.0).name ≡ p.1)) names
