-- What servers tell of the keys that a plan moves, and of themselves.
use Rattle.std.specs.Prelude.{◌≡◌, ◌<◌, ℕ, List, Some, length, slice_get}
use Rattle.cluster_inspection.specs.Starts.{SaysNoStart}
use Rattle.cluster_inspection.specs.declared.refusal.Refusal.{Refusal}
use Rattle.cluster_inspection.specs.declared.refusal.Refusal.TheVariants as refusal
use Rattle.plan_language.specs.Lines.{plan_commands}
use Rattle.plan_language.specs.PlanView.{PlanView}
use Rattle.plan_changes.specs.Loads.{load_of}
use Rattle.plan_outlines.specs.declared.nodes.NodeServer.{NodeServer}
use Rattle.plan_previews.specs.declared.counting.Counts.{Counts}
use Rattle.server_commands.specs.Servers.{server_at}
use Rattle.server_commands.specs.declared.book.Server.{Server}

-- this is the server of the book
pub record IsServer (n : ℕ) (s : Server) (t : NodeServer) : Type 0 where
  pub node : t.node ≡ n
  pub host : t.host ≡ s.host
  pub port : t.port ≡ s.port
  pub name : t.name ≡ s.name

-- these are all servers of the book
abbrev pub AreServers : List Server → List NodeServer → Type 0
AreServers book told = (length told ≡ length book)
    × ((n : ℕ) → n < length book → (t : NodeServer) × (slice_get told n ≡ Some t) × IsServer n (server_at book n) t)

-- some keys of each slot, what the plan moves by them, and the servers
pub record AreCounts (book : List Server) (plan : PlanView) (c : Counts) : Type 0 where
  pub width : length c.keys.items ≡ 16384
  pub load : c.load ≡ load_of c.keys.items (plan_commands (length book) plan.lines)
  pub servers : AreServers book c.servers.items

-- a server gives no answer, which is told; or memory ran out
abbrev pub IsUncounted : Refusal → Type 0
IsUncounted refusal.Memory = Unit {0}
IsUncounted refusal.Unread = ⊥
IsUncounted (refusal.Answer t) = SaysNoStart t.status t.printed.items
