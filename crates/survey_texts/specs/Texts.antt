-- A survey as it is printed: the lines of the nodes, one for each mark, and whether the cluster is clean.
use Rattle.std.specs.Prelude.{◌≡◌, ◌↔◌, ℕ, Bool, cond, ◌==◌, List, [], ◌∷◌, ◌++◌, length, Option, None, Some, IsTrue}
use Rattle.std.specs.Prelude.{codes}
use Rattle.std.specs.Prelude.{count_by, decimal}
use Rattle.std.specs.List.{flat_map}
use Rattle.cluster_views.specs.Numbers.{numbers_to}
use Rattle.cluster_admin.specs.Surveys.{Survey, closed_survey, importing_at, migrating_at, owner_at, row_at}
use Rattle.server_commands.specs.Servers.{server_at}
use Rattle.server_commands.specs.declared.book.Server.{Server}

-- `n` and the number
abbrev pub node_text : ℕ → List ℕ
node_text n = 110 ∷ decimal n

-- `127.0.0.1:7000 ID`
abbrev pub server_text : Server → List ℕ
server_text s = s.host ++ (58 ∷ decimal s.port ++ (32 ∷ s.name))

-- the node tells that the slot is its own
abbrev pub is_own : Survey → (node slot : ℕ) → Bool
is_own v n s = owner_at v n s == n

-- how many slots are the node's, as it tells itself
abbrev pub slots_of : Survey → (node : ℕ) → ℕ
slots_of v n = count_by (is_own v n) (numbers_to 16384)

-- `n0 127.0.0.1:7000 ID 5461 slots`
abbrev pub node_line : List Server → Survey → (node : ℕ) → List ℕ
node_line b v n =
    node_text n ++ (32 ∷ server_text (server_at b n) ++ (32 ∷ decimal (slots_of v n) ++ codes " slots\n"))

-- `slot 24 migrating to n1 at n0`, or nothing
abbrev pub mark_line : (slot : ℕ) (how : List ℕ) (node : ℕ) → Option ℕ → List ℕ
mark_line s how n None = []
mark_line s how n (Some m) =
    codes "slot " ++ (decimal s ++ (how ++ (node_text m ++ (codes " at " ++ (node_text n ++ 10 ∷ [])))))

abbrev pub going_line : Survey → (slot node : ℕ) → List ℕ
going_line v s n = mark_line s (codes " migrating to ") n (migrating_at v n s)

abbrev pub coming_line : Survey → (slot node : ℕ) → List ℕ
coming_line v s n = mark_line s (codes " importing from ") n (importing_at v n s)

-- the slot's marks: where it goes first, by nodes
abbrev pub marks_of : Survey → (slot : ℕ) → List ℕ
marks_of v s =
    flat_map (going_line v s) (numbers_to (length v.rows)) ++ flat_map (coming_line v s) (numbers_to (length v.rows))

abbrev pub last_line : (is_clean : Bool) → List ℕ
last_line c = cond c (codes "clean\n") (codes "open\n")

-- a line for each node
abbrev pub node_lines : List Server → Survey → List ℕ
node_lines b v = flat_map (node_line b v) (numbers_to (length v.rows))

-- `left out 127.0.0.1:7002 ID: it failed and has no slots`
abbrev pub left_out_line : Server → List ℕ
left_out_line s = codes "left out " ++ (server_text s ++ codes ": it failed and has no slots\n")

-- a line for each master that is left out
abbrev pub left_out_lines : List Server → List ℕ
left_out_lines left = flat_map left_out_line left

abbrev pub survey_text : (nodes : List ℕ) → (left : List Server) → Survey → (more : List ℕ) → (is_clean : Bool)
    → List ℕ
survey_text nodes left v more c =
    nodes ++ (left_out_lines left ++ (flat_map (marks_of v) (numbers_to 16384) ++ (more ++ last_line c)))

-- The lines of the nodes stand first. Clean is the cluster whose nodes all tell the same owners, and which has no mark.
-- More lines may stand before the last one.
pub record IsSurveyText (nodes : List ℕ) (left : List Server) (v : Survey) (more text : List ℕ) : Type 0 where
  pub is_clean : Bool
  pub clean : IsTrue is_clean ↔ (v ≡ closed_survey (length v.rows) (row_at v 0).owners)
  pub whole : text ≡ survey_text nodes left v more is_clean
