-- What servers have to show before a command goes out, and after it was done (Redis Cluster specification,
-- "Configuration epoch" and "Hash slots configuration propagation").
use Rattle.std.specs.Prelude.{ℕ, suc, ◌<◌, Bool, cond, not, ◌&&◌, ◌==◌, nat_lt, List, [], ◌∷◌, ◌++◌, length}
use Rattle.std.specs.Prelude.{Option, Some, None, Result, Ok}
use Rattle.cluster_admin.specs.declared.admin.AdminCommand.{AdminCommand}
use Rattle.cluster_admin.specs.declared.admin.AdminCommand.TheVariants.{Importing, SetNode}
use Rattle.cluster_admin.specs.declared.admin.AdminReply.{AdminReply}
use Rattle.cluster_admin.specs.declared.admin.AdminReply.TheVariants as admin
use Rattle.cluster_admin.specs.Surveys.{Survey}
use Rattle.cluster_admin.specs.declared.port_fault.PortFault.{PortFault}
use Rattle.redis_servers.specs.RunHistories.{RunHistory, is_chained, source_of}
use Rattle.redis_servers.specs.declared.duty.Duty.{Duty}
use Rattle.redis_servers.specs.declared.duty.Duty.TheVariants.{KnowsEpoch, HasNews, IsMaster, OwnsSlot, IsStillMaster}
use Rattle.redis_servers.specs.declared.duty.Duty.TheVariants.{ShowsOwner}

abbrev pub owner_if : (wanted : Bool) → (i slot t : ℕ) → List Duty
owner_if wanted i slot t = cond wanted (ShowsOwner i slot t ∷ []) []

-- ---- before a slot is given to a node

abbrev pub epoch_if : (wanted : Bool) → (i t : ℕ) → List Duty
epoch_if wanted i t = cond wanted (KnowsEpoch i t ∷ []) []

-- the config epoch of each node from i on that has taken slots over
abbrev pub epochs_from : (t i : ℕ) → (receivers : List Bool) → List Duty
epochs_from t i [] = []
epochs_from t i (r ∷ rs) = epoch_if (r && not (i == t)) i t ++ epochs_from t (suc i) rs

-- Where a node that gives slots away takes some over, a claim could meet another one with a greater epoch.
abbrev pub news_at : RunHistory → (t : ℕ) → List Duty
news_at x t = cond (is_chained x t) (epochs_from t 0 x.receivers ++ HasNews t ∷ []) []

-- the source is another of the servers, whose role can be asked for
abbrev pub has_role : (nodes t s : ℕ) → Bool
has_role k t s = nat_lt s k && not (s == t)

abbrev pub master_if : (nodes t : ℕ) → (source : Option ℕ) → List Duty
master_if k t (Some s) = cond (has_role k t s) (IsMaster s ∷ []) []
master_if k t None = []

-- Where the run waits for news, a node has heard that the source owns a slot before it is to import that from there.
abbrev pub duties_before : (waits : Bool) → RunHistory → Survey → (node : ℕ) → AdminCommand → List Duty
duties_before waits x v n (SetNode slot owner) =
    cond (owner == n) (news_at x n ++ master_if (length v.rows) n (source_of x v slot)) []
duties_before waits x v n (Importing slot source) = owner_if waits n slot source
duties_before waits x v n other = []

-- ---- after it

abbrev pub taken_if : (nodes t slot : ℕ) → (source : Option ℕ) → List Duty
taken_if k t slot (Some s) = cond (has_role k t s) (OwnsSlot t slot ∷ (IsStillMaster s slot ∷ [])) []
taken_if k t slot None = []

abbrev pub duties_after : RunHistory → Survey → (node : ℕ) → AdminCommand → List Duty
duties_after x v n (SetNode slot owner) =
    cond (owner == n) (taken_if (length v.rows) n slot (source_of x v slot)) []
duties_after x v n other = []

-- the same by what the command was answered
abbrev pub duties_done : RunHistory → Survey → (node : ℕ) → AdminCommand → Result AdminReply PortFault → List Duty
duties_done x v n c (Ok admin.Ok) = duties_after x v n c
duties_done x v n c other = []

-- ---- servers that are there

-- the servers that a duty names are of so many
abbrev pub IsThere : (nodes : ℕ) → Duty → Type 0
IsThere k (KnowsEpoch s t) = (s < k) × (t < k)
IsThere k (HasNews t) = t < k
IsThere k (IsMaster s) = s < k
IsThere k (OwnsSlot t slot) = t < k
IsThere k (IsStillMaster s slot) = s < k
IsThere k (ShowsOwner n slot t) = (n < k) × (t < k)

abbrev pub AreThere : (nodes : ℕ) → List Duty → Type 0
AreThere k [] = Unit {0}
AreThere k (d ∷ ds) = IsThere k d × AreThere k ds
