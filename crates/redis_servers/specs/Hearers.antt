-- The servers that are to hear of a slot's new owner over the bus before another server than that is notified (Redis
-- Cluster specification, "Hash slots configuration propagation").
use Rattle.std.specs.Prelude.{ℕ, suc, ◌<◌, Bool, cond, not, ◌&&◌, ◌==◌, List, [], ◌∷◌, ◌++◌, Result, Ok}
use Rattle.cluster_admin.specs.declared.admin.AdminCommand.{AdminCommand}
use Rattle.cluster_admin.specs.declared.admin.AdminCommand.TheVariants.{SetNode}
use Rattle.cluster_admin.specs.declared.admin.AdminReply.{AdminReply}
use Rattle.cluster_admin.specs.declared.admin.AdminReply.TheVariants as admin
use Rattle.cluster_admin.specs.Surveys.{Row, Survey}
use Rattle.cluster_admin.specs.declared.port_fault.PortFault.{PortFault}
use Rattle.redis_servers.specs.declared.hearers.Hearer.{Hearer}

abbrev pub hearer_if : (wanted : Bool) → (i slot t : ℕ) → List Hearer
hearer_if wanted i slot t = cond wanted (record { node = i; slot = slot; owner = t } ∷ []) []

-- each of the servers from i on but the target
abbrev pub hearers_from : (slot t i : ℕ) → List Row → List Hearer
hearers_from slot t i [] = []
hearers_from slot t i (r ∷ rs) = hearer_if (not (i == t)) i slot t ++ hearers_from slot t (suc i) rs

-- Where the run waits for news, all other servers are to hear of a slot's new owner.
abbrev pub hearers_after : (waits : Bool) → Survey → (node : ℕ) → AdminCommand → List Hearer
hearers_after waits v n (SetNode slot owner) = cond (waits && (owner == n)) (hearers_from slot n 0 v.rows) []
hearers_after waits v n other = []

-- the same by what the command was answered
abbrev pub hearers_done : (waits : Bool) → Survey → (node : ℕ) → AdminCommand → Result AdminReply PortFault
    → List Hearer
hearers_done waits v n c (Ok admin.Ok) = hearers_after waits v n c
hearers_done waits v n c other = []

-- the servers that are named are of so many
abbrev pub CanHear : (nodes : ℕ) → List Hearer → Type 0
CanHear k [] = Unit {0}
CanHear k (h ∷ hs) = (h.node < k) × (h.owner < k) × CanHear k hs
