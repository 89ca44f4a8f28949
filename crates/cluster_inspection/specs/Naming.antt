-- Plans with the names of the servers whose nodes they mention.
use Rattle.std.specs.Prelude.{◌≡◌, ◌≢◌, ◌<◌, ◌≤◌, ℕ, zero, suc, cond, true, false, List, [], ◌∷◌, ◌++◌, length}
use Rattle.std.specs.Prelude.{None, option_map}
use Rattle.node_names.specs.Names.{AreNames, Names, has_name, is_name}
use Rattle.plan_language.specs.PlanView.{PlanView}
use Rattle.plan_language.specs.declared.line.Line.{Line}
use Rattle.server_commands.specs.Servers.{server_at}
use Rattle.server_commands.specs.declared.book.Server.{Server}
use Rattle.cluster_inspection.specs.Mentioned.{mentions}
use Rattle.cluster_inspection.specs.declared.naming_fault.NamingFault.{NamingFault}
use Rattle.cluster_inspection.specs.declared.naming_fault.NamingFault.TheVariants as fault

-- the name of the node's server
abbrev pub name_at : List Server → (node : ℕ) → List ℕ
name_at b n = (server_at b n).name

-- the nodes below a number that the lines mention, ascending, each with the name of its server
unfoldable pub names_below : List Server → List Line → (count : ℕ) → Names
names_below b lines zero = []
names_below b lines (suc n) = names_below b lines n ++ cond (mentions lines n) ((n, name_at b n) ∷ []) []

-- those of all servers
abbrev pub names_of : List Server → List Line → Names
names_of b lines = names_below b lines (length b)

-- the plan with these names, if its text lists names; any other plan stays as it is
abbrev pub named : List Server → PlanView → PlanView
named b plan = record plan { names = option_map (λ names. names_of b plan.lines) plan.names }

-- ---- no names

-- the lines mention this node, which has a server, and the nodes below it that they mention have names
pub record IsMentioned (b : List Server) (lines : List Line) (node : ℕ) : Type 0 where
  pub server : node < length b
  pub mentioned : mentions lines node ≡ true
  pub lower : AreNames (names_below b lines node)

-- all nodes with a server have names, and this is the first one without a server that the lines mention
pub record IsBeyond (b : List Server) (lines : List Line) (node : ℕ) : Type 0 where
  pub beyond : length b ≤ node
  pub mentioned : mentions lines node ≡ true
  pub lower : AreNames (names_of b lines)
  pub first : (m : ℕ) → length b ≤ m → m < node → mentions lines m ≡ false

-- why the nodes that the lines mention can't be listed: the lowest one decides
abbrev pub AreUnnamed : List Server → List Line → NamingFault → Type 0
AreUnnamed b lines fault.Memory = Unit {0}
AreUnnamed b lines (fault.NoName n) = IsMentioned b lines n × (is_name (name_at b n) ≡ false)
AreUnnamed b lines (fault.SameName n) =
    IsMentioned b lines n × (is_name (name_at b n) ≡ true) × (has_name (names_below b lines n) (name_at b n) ≡ true)
AreUnnamed b lines (fault.NoServer n) = IsBeyond b lines n

-- a plan without names is never refused
abbrev pub IsUnnamed : List Server → PlanView → NamingFault → Type 0
IsUnnamed b plan f = (plan.names ≢ None) × AreUnnamed b plan.lines f

-- one node more can't be listed after these
abbrev pub IsUnlisted : List Server → Names → (node : ℕ) → NamingFault → Type 0
IsUnlisted b names n fault.Memory = Unit {0}
IsUnlisted b names n (fault.NoName m) = (m ≡ n) × AreNames names × (is_name (name_at b n) ≡ false)
IsUnlisted b names n (fault.SameName m) =
    (m ≡ n) × AreNames names × (is_name (name_at b n) ≡ true) × (has_name names (name_at b n) ≡ true)
IsUnlisted b names n (fault.NoServer m) = ⊥
