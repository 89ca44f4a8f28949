-- The rows of a survey, as they are kept: each server's owners and marks.
use Rattle.std.specs.Prelude.{◌≡◌, ◌≢◌, ◌⊎◌, ℕ, ◌<◌, ◌≤◌, List, [], Option, None, Some, IfSome, length, map}
use Rattle.std.specs.Prelude.{slice_index, slice_index_or}
use Rattle.std.specs.FinMap as finite
use Rattle.std.specs.List.{All}
use Rattle.key_slots.specs.Owners.{Owners}
use Rattle.slot_marks.specs.Rows.{AreOfSlots}
use Rattle.slot_marks.specs.Setting.{with_importing, with_migrating}
use Rattle.slot_marks.specs.Tables.{Table}
use Rattle.cluster_admin.specs.Surveys.{Row, Survey, importing_at, migrating_at, row_at}
use Rattle.cluster_views.specs.declared.server_row.ServerRow.{ServerRow}

abbrev pub row_of : ServerRow → Row
row_of r = record { owners = r.owners.owners; migrating = r.migrating; importing = r.importing }

abbrev pub no_owners : Owners
no_owners = record { nodes = 0; owners = [] }

abbrev pub blank_row : ServerRow
blank_row = record { owners = no_owners; migrating = finite.empty; importing = finite.empty }

abbrev pub kept_at : List ServerRow → ℕ → ServerRow
kept_at rs n = slice_index_or rs n blank_row

-- the row of one among so many servers
pub record IsWhole (count : ℕ) (r : ServerRow) : Type 0 where
  pub nodes : r.owners.nodes ≡ count
  pub width : length r.owners.owners ≡ 16384
  pub named : All (λ n. n < count) r.owners.owners
  pub migrating : AreOfSlots r.migrating
  pub importing : AreOfSlots r.importing
  pub going : (s : ℕ) → IfSome (finite.get r.migrating s) (λ m. m < count)
  pub coming : (s : ℕ) → IfSome (finite.get r.importing s) (λ m. m < count)

-- the rows of all servers, of which there are 1 to 255
pub record AreRows (rs : List ServerRow) : Type 0 where
  pub each : (n : ℕ) → n < length rs → IsWhole (length rs) (kept_at rs n)
  pub least : 1 ≤ length rs
  pub most : length rs ≤ 255

abbrev pub survey_by : List ServerRow → Survey
survey_by rs = record { rows = map row_of rs }

-- ---- as tables of a world's nodes

-- the node's table, if it may have these marks
abbrev pub table_in : Survey → (node : ℕ) → Table
table_in v n = record {
  me = n;
  nodes = length v.rows;
  owners = (row_at v n).owners;
  migrating = (row_at v n).migrating;
  importing = (row_at v n).importing;
}

-- no table has this mark: a slot that goes from a node which tells another owner, or to the node itself
abbrev pub IsStrayGoing : Table → (slot : ℕ) → Option ℕ → Type 0
IsStrayGoing t s None = ⊥
IsStrayGoing t s (Some m) = (slice_index t.owners s ≢ t.me) ⊎ (m ≡ t.me)

-- nor this one: a slot that comes to its owner, or from the node itself
abbrev pub IsStrayComing : Table → (slot : ℕ) → Option ℕ → Type 0
IsStrayComing t s None = ⊥
IsStrayComing t s (Some m) = (slice_index t.owners s ≡ t.me) ⊎ (m ≡ t.me)

abbrev pub with_going : Table → (slot : ℕ) → Option ℕ → Table
with_going t s None = t
with_going t s (Some m) = with_migrating t s m

abbrev pub with_coming : Table → (slot : ℕ) → Option ℕ → Table
with_coming t s None = t
with_coming t s (Some m) = with_importing t s m

-- the node has such a mark on the slot
abbrev pub IsStrayMark : Survey → (node slot : ℕ) → Type 0
IsStrayMark v n s =
    IsStrayGoing (table_in v n) s (migrating_at v n s) ⊎ IsStrayComing (table_in v n) s (importing_at v n s)

abbrev pub HasStrayMark : Survey → Type 0
HasStrayMark v = (n : ℕ) × (s : ℕ) × (n < length v.rows) × (s < 16384) × IsStrayMark v n s
