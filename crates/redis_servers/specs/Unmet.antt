-- What is said where servers do not show what they have to.
use Rattle.std.specs.Prelude.{ℕ, List, ◌++◌, codes}
use Rattle.redis_servers.specs.Hearing.{unheard_text}
use Rattle.redis_servers.specs.Saying.{node_word}
use Rattle.redis_servers.specs.declared.duty.Duty.{Duty}
use Rattle.redis_servers.specs.declared.hearers.Hearer.{Hearer}
use Rattle.redis_servers.specs.declared.duty.Duty.TheVariants.{KnowsEpoch, HasNews, IsMaster, OwnsSlot, IsStillMaster}
use Rattle.redis_servers.specs.declared.duty.Duty.TheVariants.{ShowsOwner}

abbrev pub no_news_text : (target : ℕ) → List ℕ
no_news_text t = node_word t ++ codes " has not heard of the other masters' slots and config epochs after 2 seconds"

abbrev pub replica_text : (source : ℕ) → List ℕ
replica_text s = node_word s ++ codes " is no master any more: its shard failed over before the slot was given away"

abbrev pub disowned_text : (target : ℕ) → List ℕ
disowned_text t = node_word t ++ codes " does not own the slot that it took over: its shard failed over"

abbrev pub lost_writes_text : (source : ℕ) → List ℕ
lost_writes_text s = node_word s
    ++ codes " is no master any more: writes of the slot that its shard acknowledged since may be lost"

abbrev pub no_owner_text : (node : ℕ) → List ℕ
no_owner_text n = node_word n ++ codes " has not heard of the slot's owner after 2 seconds"

abbrev pub unmet_text : Duty → List ℕ
unmet_text (KnowsEpoch s t) = unheard_text s t
unmet_text (HasNews t) = no_news_text t
unmet_text (IsMaster s) = replica_text s
unmet_text (OwnsSlot t slot) = disowned_text t
unmet_text (IsStillMaster s slot) = lost_writes_text s
unmet_text (ShowsOwner n slot t) = no_owner_text n

abbrev pub late_text : Hearer → List ℕ
late_text h = no_owner_text h.node
