-- What is printed of a master below its line. Each of these lines begins with two spaces.
use Rattle.std.specs.Prelude.{ℕ, ◌+◌, ◌-◌, Bool, ◌&&◌, cond, ◌==◌, nat_lt, List, [], ◌∷◌, ◌++◌, Option, None, Some}
use Rattle.std.specs.Prelude.{codes, decimal}
use Rattle.std.specs.List.{flat_map}
use Rattle.cluster_admin.specs.Surveys.{Survey}
use Rattle.listed_nodes.specs.declared.node_line.NodeLine.{NodeLine}
use Rattle.cluster_views.specs.Numbers.{numbers_to}
use Rattle.survey_texts.specs.Texts.{is_own, slots_of}

-- there is a slot before it, which is the node's, too
abbrev pub is_own_before : Survey → (node slot : ℕ) → Bool
is_own_before v n s = nat_lt 0 s && is_own v n (s - 1)

-- there is one after it, which is
abbrev pub is_own_next : Survey → (node slot : ℕ) → Bool
is_own_next v n s = nat_lt (s + 1) 16384 && is_own v n (s + 1)

-- The slot of the node: ` 24`, if a range of its slots begins with it, and `-24`, if a longer one ends with it. One
-- that stands between two others is not printed.
abbrev pub own_part : (before next : Bool) → (slot : ℕ) → List ℕ
own_part before next s = cond before (cond next [] (45 ∷ decimal s)) (32 ∷ decimal s)

abbrev pub range_part : Survey → (node slot : ℕ) → List ℕ
range_part v n s = cond (is_own v n s) (own_part (is_own_before v n s) (is_own_next v n s) s) []

-- `  slots 0-5460 10923`, or nothing of a node without slots
abbrev pub slots_line : Survey → (node : ℕ) → List ℕ
slots_line v n = cond (slots_of v n == 0) []
    (codes "  slots" ++ (flat_map (range_part v n) (numbers_to 16384) ++ codes "\n"))

abbrev pub keys_word : Option ℕ → List ℕ
keys_word None = codes "unknown"
keys_word (Some k) = decimal k

-- `  keys 1234`
abbrev pub keys_line : Option ℕ → List ℕ
keys_line keys = codes "  keys " ++ (keys_word keys ++ codes "\n")

-- `  127.0.0.1:7003 ID replica`
abbrev pub replica_line : NodeLine → List ℕ
replica_line r =
    codes "  " ++ (r.host ++ (codes ":" ++ (decimal r.port ++ (codes " " ++ (r.name ++ codes " replica\n")))))

abbrev pub replica_lines : List NodeLine → List ℕ
replica_lines rs = flat_map replica_line rs

abbrev pub untold_replicas : List ℕ
untold_replicas = codes "  replicas unknown\n"
