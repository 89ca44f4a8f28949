-- A survey of nodes whose owners and marks nothing but the administrator's calls has changed since the opening.
use Rattle.std.specs.Prelude.{◌≡◌, ℕ, List, [], ◌∷◌, ◌++◌}
use Rattle.slot_marks.specs.Tables.{Table}
use Rattle.cluster_admin.specs.Surveys.{Row, IsTableOf, row_at, row_of_table}
use Rattle.cluster_world.specs.Worlds.{survey_of, World}
use Rattle.cluster_admin.specs.Telling.{survey_after}
use Rattle.cluster_admin.specs.declared.call.AdminCall.{AdminCall}

-- the owners and marks of the node after these calls
abbrev pub row_by_calls : (opening : World) → List AdminCall → (node : ℕ) → Row
row_by_calls opening calls n = row_at (survey_after (survey_of opening) calls) n

-- the table of this node among so many was put at the end, and shows this row
pub record AddsTable (count node : ℕ) (row : Row) (ts ts' : List Table) : Type 0 where
  pub table : Table
  pub is : ts' ≡ ts ++ table ∷ []
  pub of_node : IsTableOf count node table
  pub shows : row_of_table table ≡ row
