-- Whether a failed master may take back the slots of its shard once it returns.
use Rattle.std.specs.Prelude.{◌≡◌, ◌⊎◌, ℕ, Bool, false, List, Result, Ok, Err}
use Rattle.cluster_views.specs.declared.fault.SurveyFault.{SurveyFault}
use Rattle.server_links.specs.Exchanges.{Answer}
use Rattle.server_links.specs.Streams.{Streams}
use Rattle.server_links.specs.declared.link.Link as link
use Rattle.server_shards.specs.Asking.{AsksShards, IsShared}
use Rattle.server_versions.specs.Asking.{AsksVersion, IsTold}
use Rattle.server_versions.specs.declared.versions.ServerVersion.{ServerVersion}
use Rattle.server_versions.specs.declared.versions.ServerVersion.TheVariants.{Redis, Untold, Valkey}

-- how a node is asked for its version, and for the shards that it knows
pub record Asks (L : Type 0) : Type 1 where
  pub version : L → Answer → L → Type 0
  pub shards : L → Answer → L → Type 0

abbrev pub asks_of : {I O : Type 0} → Streams I O → Asks (link.Link I O)
asks_of by = record { version = AsksVersion by; shards = AsksShards by }

-- at Redis it does not, and nothing more is asked; elsewhere it may where both are in one shard
abbrev pub IsBy : {L : Type 0} → Asks L → (node : ℕ) → ServerVersion → (one other : List ℕ) → L
    → Result Bool SurveyFault → L → Type 0
IsBy asks n (Redis t) one other l r l' = (r ≡ Ok false) × (l' ≡ l)
IsBy asks n (Valkey t) one other l r l' = IsShared asks.shards n one other l r l'
IsBy asks n Untold one other l r l' = IsShared asks.shards n one other l r l'

-- the node told its version, and then what follows; or it told none
abbrev pub MayTakeBack : {L : Type 0} → Asks L → (node : ℕ) → (one other : List ℕ) → L → Result Bool SurveyFault → L
    → Type 0
MayTakeBack {L} asks n one other l r l' =
    ((v : ServerVersion) × (mid : L) × IsTold asks.version n l (Ok v) mid × IsBy asks n v one other mid r l')
    ⊎ ((e : SurveyFault) × IsTold asks.version n l (Err e) l' × (r ≡ Err e))
