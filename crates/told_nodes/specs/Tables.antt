-- The tables of nodes that are told to clients. Claimed: the table that a node begins with is one of these, and each
-- change of one, by a SETSLOT that is not refused, leaves one; and a table with marks of both kinds is one.
use Rattle.std.specs.Prelude.{◌≡◌, ℕ, ◌+◌, ◌<◌, ◌≤◌, cond, nat_lt, [], ◌∷◌, IfSome, None}
use Rattle.std.specs.FinMap as finite
use Rattle.key_slots.specs.Owners.{IsTable, Owners}
use Rattle.slot_marks.specs.Setting.{importing_fault, migrating_fault, node_fault, with_importing, with_migrating}
use Rattle.slot_marks.specs.Setting.{with_owner, without_marks}
use Rattle.slot_marks.specs.Tables.{Marks, Table}
use Rattle.cluster_reports.specs.Numbered.{below}

-- each mark names one of so many nodes
abbrev pub NameNodes : (nodes : ℕ) → Marks → Type 0
NameNodes nodes m = (s : ℕ) → IfSome (finite.get m s) (λ n. n < nodes)

-- what holds of the table of one of the nodes, of which n0 has this port, and each other one the port that follows
pub record IsToldFrom (base_port : ℕ) (t : Table) : Type 0 where
  -- each has a port: so it is where a process has 8 nodes at most, and 65528 at most as the first port
  pub ports : base_port + t.nodes ≤ 65536
  pub me : t.me < t.nodes
  pub owners : IsTable (record { nodes = t.nodes; owners = t.owners })
  pub migrating : NameNodes t.nodes t.migrating
  pub importing : NameNodes t.nodes t.importing

-- the table that a node begins with
abbrev pub unmarked : (me : ℕ) → Owners → Table
unmarked me o = record {
  me = me;
  nodes = o.nodes;
  owners = o.owners;
  migrating = finite.empty;
  importing = finite.empty;
}

-- what changes a table leaves it so
pub record TablesStaySo : Type 0 where
  pub new : (base_port me : ℕ) (o : Owners) → base_port + o.nodes ≤ 65536 → me < o.nodes → IsTable o
      → IsToldFrom base_port (unmarked me o)
  pub importing : (base_port : ℕ) (t : Table) (slot source : ℕ) → IsToldFrom base_port t
      → importing_fault t slot source ≡ None → IsToldFrom base_port (with_importing t slot source)
  pub migrating : (base_port : ℕ) (t : Table) (slot target : ℕ) → IsToldFrom base_port t
      → migrating_fault t slot target ≡ None → IsToldFrom base_port (with_migrating t slot target)
  pub node : (base_port : ℕ) (t : Table) (slot owner held : ℕ) → IsToldFrom base_port t
      → node_fault t slot owner held ≡ None → IsToldFrom base_port (with_owner t slot owner)
  pub stable : (base_port : ℕ) (t : Table) (slot : ℕ) → IsToldFrom base_port t
      → IsToldFrom base_port (without_marks t slot)

-- ---- an example

-- of two nodes the first owns the lower half of the slots
abbrev pub halves : Owners
halves = record { nodes = 2; owners = below (λ s. cond (nat_lt s 8192) 0 1 ∷ []) 16384 }

-- what n1 has, with slot 9000 on its way to n0, and slot 7 on its way from there
abbrev pub example : Table
example = with_importing (with_migrating (unmarked 1 halves) 9000 0) 7 0

abbrev pub ExampleIsTold : Type 0
ExampleIsTold = IsToldFrom 7000 example
