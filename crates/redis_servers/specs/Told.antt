-- What two surveys, or a survey and a table, have in common.
use Rattle.std.specs.Prelude.{◌≡◌, ℕ, ◌<◌, None, length, slice_index}
use Rattle.key_slots.specs.Owners.{Owners}
use Rattle.cluster_admin.specs.Surveys.{Survey, owner_at, migrating_at, importing_at}

-- both tell the same of a node's slot
pub record SameSlot (v w : Survey) (n s : ℕ) : Type 0 where
  pub owner : owner_at v n s ≡ owner_at w n s
  pub migrating : migrating_at v n s ≡ migrating_at w n s
  pub importing : importing_at v n s ≡ importing_at w n s

abbrev pub SameAt : (v w : Survey) (n : ℕ) → Type 0
SameAt v w n = (s : ℕ) → s < 16384 → SameSlot v w n s

-- both tell of as many nodes, and the same of each
pub record TellsSame (v w : Survey) : Type 0 where
  pub nodes : length v.rows ≡ length w.rows
  pub each : (n : ℕ) → n < length v.rows → SameAt v w n

-- a node has the table's owner of a slot, and no mark of it
pub record IsClosedSlot (v : Survey) (t : Owners) (n s : ℕ) : Type 0 where
  pub owner : owner_at v n s ≡ slice_index t.owners s
  pub migrating : migrating_at v n s ≡ None
  pub importing : importing_at v n s ≡ None

abbrev pub IsClosedAt : (v : Survey) (t : Owners) (n : ℕ) → Type 0
IsClosedAt v t n = (s : ℕ) → s < 16384 → IsClosedSlot v t n s

-- each node has this table, and no mark
pub record TellsClosed (v : Survey) (t : Owners) : Type 0 where
  pub nodes : length v.rows ≡ t.nodes
  pub each : (n : ℕ) → n < length v.rows → IsClosedAt v t n
