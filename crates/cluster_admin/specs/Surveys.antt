-- A survey: what each node says of the slots' owners, and its marks; and in which phase each slot stands by them.
use Rattle.std.specs.Prelude.{◌≡◌, ◌≢◌, ℕ, zero, suc, ◌<◌, ◌≤◌, ◌==◌, Option, None, List, [], ◌∷◌, length, map, filter}
use Rattle.std.specs.Prelude.{slice_index, slice_index_or, replicate, refl}
use Rattle.std.specs.List.{All}
use Rattle.std.specs.FinMap as finite
use Rattle.std.specs.Coded.{Coded, code_by, coded×, coded_list, coded_ℕ}
use Rattle.slot_marks.specs.Tables.{Marks, Table, marks_code}
use Rattle.slot_marks.specs.Rows.{AreOfSlots}
use Rattle.cluster_admin.specs.Phases.{Phase, HasPhase, owner_in, goes_in, comes_in}
use Rattle.cluster_admin.specs.Phases as phase
use Rattle.cluster_admin.specs.declared.phase.Phase.{Phase as SeenPhase}
use Rattle.cluster_admin.specs.declared.phase.Phase.TheVariants as seen

-- one node's owners and marks
pub record Row : Type 0 where
  pub owners : List ℕ
  pub migrating : Marks
  pub importing : Marks

-- those of each node, in order
pub record Survey : Type 0 where
  pub rows : List Row

abbrev pub row_code : Coded Row
row_code =
    code_by (List ℕ × (Marks × Marks)) (coded× (coded_list coded_ℕ) (coded× marks_code marks_code))
    (λ r. (r.owners, (r.migrating, r.importing)))
    (λ p. record { owners = p.0; migrating = p.1.0; importing = p.1.1 }) (λ _. refl)

abbrev pub survey_code : Coded Survey
survey_code = code_by (List Row) (coded_list row_code) (λ v. v.rows) (λ rs. record { rows = rs }) (λ _. refl)

abbrev pub closed_row : List ℕ → Row
closed_row owners = record { owners = owners; migrating = finite.empty; importing = finite.empty }

-- the survey of so many nodes that all have this table and no mark
abbrev pub closed_survey : (nodes : ℕ) → (owners : List ℕ) → Survey
closed_survey n owners = record { rows = replicate n (closed_row owners) }

-- ---- what a node has on a slot

abbrev pub row_at : Survey → ℕ → Row
row_at v n = slice_index_or v.rows n (closed_row [])

abbrev pub owner_at : Survey → (node slot : ℕ) → ℕ
owner_at v n s = slice_index (row_at v n).owners s

abbrev pub migrating_at : Survey → (node slot : ℕ) → Option ℕ
migrating_at v n s = finite.get (row_at v n).migrating s

abbrev pub importing_at : Survey → (node slot : ℕ) → Option ℕ
importing_at v n s = finite.get (row_at v n).importing s

-- ---- phases

-- the slot is in this phase
abbrev pub HasPhaseIn : Survey → (slot : ℕ) → Phase → Type 0
HasPhaseIn v s p =
    HasPhase (length v.rows) (λ n. owner_at v n s) (λ n. migrating_at v n s) (λ n. importing_at v n s) p

-- every slot is in some phase
abbrev pub IsOpenSurvey : Survey → Type 0
IsOpenSurvey v = (s : ℕ) → (p : Phase) × HasPhaseIn v s p

-- what one node says of the slot, and its marks, are those of this phase
pub record StandsIn (v : Survey) (slot : ℕ) (p : Phase) (node : ℕ) : Type 0 where
  pub owner : owner_at v node slot ≡ owner_in p node
  pub going : migrating_at v node slot ≡ goes_in p node
  pub coming : importing_at v node slot ≡ comes_in p node

-- none of so many nodes has a mark
abbrev pub NoneAt : (nodes : ℕ) → (ℕ → Option ℕ) → Type 0
NoneAt count marks = (n : ℕ) → n < count → marks n ≡ None

-- some node says that this one is the slot's owner
abbrev pub IsSaid : Survey → (slot owner : ℕ) → Type 0
IsSaid v s o = (n : ℕ) × (n < length v.rows) × (owner_at v n s ≡ o)

-- another one than this is said to be the slot's owner
abbrev pub IsOwnerBeside : Survey → (slot other owner : ℕ) → Type 0
IsOwnerBeside v s m o = (o ≢ m) × IsSaid v s o

-- past the last slot nobody says anything
pub record IsBlankBeyond (v : Survey) : Type 0 where
  pub owners : (n s : ℕ) → 16384 ≤ s → owner_at v n s ≡ 0
  pub migrating : (n s : ℕ) → 16384 ≤ s → migrating_at v n s ≡ None
  pub importing : (n s : ℕ) → 16384 ≤ s → importing_at v n s ≡ None

-- the numbers below this one
abbrev pub numbers_below : ℕ → List ℕ
numbers_below zero = []
numbers_below (suc n) = n ∷ numbers_below n

-- the nodes that say that this one is the slot's owner
abbrev pub nodes_saying : Survey → (slot owner : ℕ) → List ℕ
nodes_saying v s o = filter (λ n. owner_at v n s == o) (numbers_below (length v.rows))

-- the phase that the program has seen; the nodes that are not told yet are those that still say the source
abbrev pub phase_seen : Survey → (slot : ℕ) → SeenPhase → Phase
phase_seen v s (seen.Closed o) = phase.Closed o
phase_seen v s (seen.Importing m t) = phase.Importing m t
phase_seen v s (seen.Migrating m t) = phase.Migrating m t
phase_seen v s (seen.TargetTold m t) = phase.TargetTold m t
phase_seen v s (seen.SourceTold m t) = phase.SourceTold m t (nodes_saying v s m)

-- ---- the tables of a survey

abbrev pub row_of_table : Table → Row
row_of_table t = record { owners = t.owners; migrating = t.migrating; importing = t.importing }

-- what every table keeps
pub record IsWhole (t : Table) : Type 0 where
  pub width : length t.owners ≡ 16384
  pub named : All (λ n. n < t.nodes) t.owners
  pub migrating : AreOfSlots t.migrating
  pub importing : AreOfSlots t.importing

abbrev pub blank_table : Table
blank_table = record { me = 0; nodes = 0; owners = []; migrating = finite.empty; importing = finite.empty }

abbrev pub table_at : List Table → ℕ → Table
table_at ts i = slice_index_or ts i blank_table

-- the table of the node i among so many
pub record IsTableOf (count i : ℕ) (t : Table) : Type 0 where
  pub me : t.me ≡ i
  pub nodes : t.nodes ≡ count
  pub whole : IsWhole t

-- the tables of the first nodes among so many
abbrev pub AreFirstTables : (count : ℕ) → List Table → Type 0
AreFirstTables count ts = (i : ℕ) → i < length ts → IsTableOf count i (table_at ts i)

-- the tables of all nodes, of which there are 1 to 255
pub record AreTables (ts : List Table) : Type 0 where
  pub each : AreFirstTables (length ts) ts
  pub least : 1 ≤ length ts
  pub most : length ts ≤ 255

abbrev pub survey_by : List Table → Survey
survey_by ts = record { rows = map row_of_table ts }
