-- What is said of replicas that lack a mark of their master, or tell none.
use Rattle.std.specs.Prelude.{ℕ, Bool, ◌&&◌, cond, not, List, [], ◌∷◌, ◌++◌, codes, decimal}
use Rattle.std.specs.List.{flat_map}
use Rattle.listed_nodes.specs.declared.node_line.NodeLine.{NodeLine}
use Rattle.cluster_views.specs.Numbers.{numbers_to}
use Rattle.cluster_views.specs.Surveying.{has_mark}
use Rattle.cluster_admin.specs.Surveys.{Survey}
use Rattle.server_replicas.specs.Marks.{shows_mark}
use Rattle.survey_texts.specs.Texts.{node_text}

-- `127.0.0.1:7005, a replica of n1`
abbrev pub replica_words : (node : ℕ) → NodeLine → List ℕ
replica_words n r = r.host ++ (codes ":" ++ (decimal r.port ++ (codes ", a replica of " ++ node_text n)))

-- `127.0.0.1:7005, a replica of n1, has no mark of slot 24`
abbrev pub lack_line : (node : ℕ) → NodeLine → (slot : ℕ) → List ℕ
lack_line n r s = replica_words n r ++ (codes ", has no mark of slot " ++ (decimal s ++ 10 ∷ []))

-- `127.0.0.1:7005, a replica of n1, does not tell its marks`
abbrev pub silent_line : (node : ℕ) → NodeLine → List ℕ
silent_line n r = replica_words n r ++ codes ", does not tell its marks\n"

-- `n1 does not tell its replicas`
abbrev pub untold_line : (node : ℕ) → List ℕ
untold_line n = node_text n ++ codes " does not tell its replicas\n"

-- the node has a mark of the slot that its replica does not show in the lines that it told
abbrev pub is_lacking : Survey → (node : ℕ) → (told : List NodeLine) → (slot : ℕ) → Bool
is_lacking v n told s = has_mark v s n && not (shows_mark s told)

abbrev pub lack_text : Survey → (node : ℕ) → (replica : NodeLine) → (told : List NodeLine) → (slot : ℕ) → List ℕ
lack_text v n r told s = cond (is_lacking v n told s) (lack_line n r s) []

abbrev pub lacks_text : Survey → (node : ℕ) → (replica : NodeLine) → (told : List NodeLine) → List ℕ
lacks_text v n r told = flat_map (lack_text v n r told) (numbers_to 16384)
