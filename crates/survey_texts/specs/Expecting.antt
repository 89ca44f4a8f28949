-- A text that tells which IDs the nodes are expected to have, in lines as a survey prints them.
use Rattle.std.specs.Prelude.{◌≡◌, ℕ, ◌+◌, Bool, cond, ◌&&◌, ◌||◌, ◌==◌, nat_eq, List, [], ◌∷◌, ◌++◌, length, Option}
use Rattle.std.specs.Prelude.{None}
use Rattle.std.specs.Prelude.{Some, Result, Ok, Err, codes}
use Rattle.std.specs.List.{starts_with}
use Rattle.byte_texts.specs.Parts.{parts}
use Rattle.byte_texts.specs.Words.{is}
use Rattle.listed_nodes.specs.Names.{if_there, is_name}
use Rattle.key_slots.specs.Numbers.{node_among}
use Rattle.server_commands.specs.declared.book.Server.{Server}
use Rattle.survey_texts.specs.declared.expect_fault.ExpectFault.{ExpectFault}
use Rattle.survey_texts.specs.declared.expect_fault.ExpectFault.TheVariants.{Line, Memory}

-- a node and its ID: `n0 ADDRESS ID COUNT slots`
abbrev pub node_of : (node name last : List ℕ) → Option (ℕ × List ℕ)
node_of node name last =
    if_there (node_among 255 node) (λ n. cond (is_name name && is (codes "slots") last) (Some (n, name)) None)

abbrev pub node_of_words : List (List ℕ) → Option (ℕ × List ℕ)
node_of_words (node ∷ (address ∷ (name ∷ (count ∷ (last ∷ []))))) = node_of node name last
node_of_words other = None

-- A mark's line, that of a master that is left out, the last one, or one that says more of the node above it: they are
-- not compared.
abbrev pub is_passed : List ℕ → Bool
is_passed t = starts_with nat_eq t (codes "slot ")
    || (starts_with nat_eq t (codes "left out ")
    || (starts_with nat_eq t (codes "  ") || (is (codes "clean") t || is (codes "open") t)))

abbrev pub with_id : List ℕ → Result (List (List ℕ)) ℕ → Result (List (List ℕ)) ℕ
with_id name (Ok ids) = Ok (name ∷ ids)
with_id name (Err line) = Err line

-- the node's turn is this one
abbrev pub id_then : (turn line : ℕ) → Option (ℕ × List ℕ) → Result (List (List ℕ)) ℕ → Result (List (List ℕ)) ℕ
id_then turn line None rest = Err line
id_then turn line (Some p) rest = cond (p.0 == turn) (with_id p.1 rest) (Err line)

-- The IDs of the nodes from this one on, each in its turn, or the number of the first line that is none of these. What
-- stands after the last line feed is a line too, if it is anything.
abbrev pub ids_from : (turn line : ℕ) → List (List ℕ) → Result (List (List ℕ)) ℕ
ids_from turn line [] = Ok []
ids_from turn line ([] ∷ []) = Ok []
ids_from turn line ([] ∷ (next ∷ more)) = Err line
ids_from turn line ((b ∷ t) ∷ more) =
    cond (is_passed (b ∷ t)) (ids_from turn (line + 1) more)
    (id_then turn line (node_of_words (parts 32 (b ∷ t))) (ids_from (turn + 1) (line + 1) more))

abbrev pub ids_in : List ℕ → Result (List (List ℕ)) ℕ
ids_in text = ids_from 0 1 (parts 10 text)

-- the first number that has another ID here than there, or none in one of the two
abbrev pub first_other : (n : ℕ) → List (List ℕ) → List Server → Option ℕ
first_other n [] [] = None
first_other n [] (s ∷ ss) = Some n
first_other n (name ∷ names) [] = Some n
first_other n (name ∷ names) (s ∷ ss) = cond (is s.name name) (first_other (n + 1) names ss) (Some n)

-- the first node whose ID is another than the text expects
abbrev pub IsExpected : List Server → List ℕ → Option ℕ → Type 0
IsExpected b text o = (ids : List (List ℕ)) × (ids_in text ≡ Ok ids) × (o ≡ first_other 0 ids b)

abbrev pub IsUnexpected : List ℕ → ExpectFault → Type 0
IsUnexpected text Memory = Unit {0}
IsUnexpected text (Line line) = ids_in text ≡ Err line

-- ---- a line more

-- the IDs that were found, and then the others
abbrev pub goes_on : List (List ℕ) → Result (List (List ℕ)) ℕ → Result (List (List ℕ)) ℕ
goes_on found (Ok ids) = Ok (found ++ ids)
goes_on found (Err line) = Err line

abbrev pub line_then : (turn line : ℕ) → List ℕ → Result (List (List ℕ)) ℕ → Result (List (List ℕ)) ℕ
    → Result (List (List ℕ)) ℕ
line_then turn line t same next = cond (is_passed t) same (id_then turn line (node_of_words (parts 32 t)) next)

-- the line was read, whatever comes after it
abbrev pub IsRead : (found : List (List ℕ)) → (t : List ℕ) → (line : ℕ) → (found' : List (List ℕ)) → Type 0
IsRead found t line found' = (rest : ℕ → Result (List (List ℕ)) ℕ)
    → goes_on found (line_then (length found) line t (rest (length found)) (rest (length found + 1)))
    ≡ goes_on found' (rest (length found'))

-- it is none
abbrev pub IsNotRead : (found : List (List ℕ)) → (t : List ℕ) → (line : ℕ) → ExpectFault → Type 0
IsNotRead found t line Memory = Unit {0}
IsNotRead found t line (Line n) = (n ≡ line) × ((rest : ℕ → Result (List (List ℕ)) ℕ)
    → line_then (length found) line t (rest (length found)) (rest (length found + 1)) ≡ Err line)
