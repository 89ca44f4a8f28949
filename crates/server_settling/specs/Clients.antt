-- What a server answers to CLIENT LIST (the page of CLIENT LIST): a line for each connection. A line is words parted by
-- one space, each `key=value`, and ends with a line feed.
use Rattle.std.specs.Prelude.{ℕ, Bool, true, false, cond, ◌||◌, ◌==◌, nat_eq, List, [], ◌∷◌, ◌++◌, length, take, drop}
use Rattle.std.specs.Prelude.{codes, Option, None, Some}
use Rattle.std.specs.Option.{is_some}
use Rattle.std.specs.Cmp.Lexicographic.{pointwise}
use Rattle.std.specs.List.{list_all}
use Rattle.byte_texts.specs.Decimals.{wide_number}
use Rattle.byte_texts.specs.Parts.{parts, split_once}
use Rattle.byte_texts.specs.Words.{is}
use Rattle.listed_nodes.specs.Names.{if_there}
use Rattle.server_settling.specs.declared.client_list.Client as declared

-- a connection: its number, the address of its other end, the last command that came over it, and whether it has no
-- name and speaks RESP2
pub record Connection : Type 0 where
  pub id : ℕ
  pub address : List ℕ
  pub command : List ℕ
  pub is_plain : Bool

abbrev pub seen_as : declared.Client → Connection
seen_as c = record { id = c.id; address = c.address.now; command = c.command.now; is_plain = c.is_plain }

-- ---- lines

-- the word has a `=`
abbrev pub is_pair : List ℕ → Bool
is_pair w = is_some (split_once 61 w)

abbrev pub are_pairs : List (List ℕ) → Bool
are_pairs ws = list_all is_pair ws

-- the word begins so
abbrev pub starts : (start word : List ℕ) → Bool
starts start w = pointwise nat_eq (take (length start) w) start

-- what stands after this start in the first word that has it
abbrev pub value_of : (start : List ℕ) → List (List ℕ) → Option (List ℕ)
value_of start [] = None
value_of start (w ∷ ws) = cond (starts start w) (Some (drop (length start) w)) (value_of start ws)

-- the first word with this start has this value
abbrev pub has_value : (value : List ℕ) → Option (List ℕ) → Bool
has_value v None = false
has_value v (Some w) = is v w

abbrev pub is_value : (start value : List ℕ) → List (List ℕ) → Bool
is_value start v ws = has_value v (value_of start ws)

abbrev pub is_nameless : Option (List ℕ) → Bool
is_nameless None = true
is_nameless (Some w) = length w == 0

-- the connection has no name, and does not speak RESP3
abbrev pub is_plain_line : List (List ℕ) → Bool
is_plain_line ws = cond (is_value (codes "resp=") (codes "3") ws) false (is_nameless (value_of (codes "name=") ws))

abbrev pub client_of : List (List ℕ) → Option Connection
client_of ws =
    if_there (value_of (codes "id=") ws) (λ i.
    if_there (wide_number i) (λ n.
    if_there (value_of (codes "addr=") ws) (λ a.
    if_there (value_of (codes "cmd=") ws) (λ c.
    Some (record { id = n; address = a; command = c; is_plain = is_plain_line ws })))))

abbrev pub client_in : List (List ℕ) → Option Connection
client_in ws = cond (are_pairs ws) (client_of ws) None

-- nothing stands after the last line feed
abbrev pub last_line : List ℕ → Option (List Connection)
last_line [] = Some []
last_line (b ∷ t) = None

abbrev pub lines_in : List (List ℕ) → Option (List Connection)
lines_in [] = None
lines_in (t ∷ []) = last_line t
lines_in (t ∷ (next ∷ more)) =
    if_there (client_in (parts 32 t)) (λ first. if_there (lines_in (next ∷ more)) (λ rest. Some (first ∷ rest)))

abbrev pub clients_of_text : List ℕ → Option (List Connection)
clients_of_text t = lines_in (parts 10 t)

-- ---- connections over which keys may still come

-- the address is `host:port`
abbrev pub is_before : (host : List ℕ) → Option (List ℕ × List ℕ) → Bool
is_before host None = false
is_before host (Some p) = is host p.0

abbrev pub comes_from : (host address : List ℕ) → Bool
comes_from host address = is_before host (split_once 58 address)

-- A MIGRATE sends AUTH and SELECT on a new connection, and then a RESTORE-ASKING for each key (the page of MIGRATE);
-- NULL stands where nothing was read yet. What was sent after the last command that was read may still be read: so
-- Redis 7.0.15 shows `select` while a large key is on its way.
abbrev pub may_restore : (command : List ℕ) → Bool
may_restore c = is (codes "restore-asking") c || (is (codes "restore") c || (is (codes "select") c
    || (is (codes "auth") c || is (codes "NULL") c)))

-- a MIGRATE gives its connections no name, and speaks RESP2
abbrev pub is_late : (host : List ℕ) → Connection → Bool
is_late host c = cond c.is_plain (cond (comes_from host c.address) (may_restore c.command) false) false

abbrev pub late_of : (host : List ℕ) → Connection → List ℕ
late_of host c = cond (is_late host c) (c.id ∷ []) []

-- the numbers of all such connections
abbrev pub late_ids : (host : List ℕ) → List Connection → List ℕ
late_ids host [] = []
late_ids host (c ∷ cs) = late_of host c ++ late_ids host cs
