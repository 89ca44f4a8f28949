-- What is said of a node that is to be forgotten.
use Rattle.std.specs.Prelude.{◌==◌, ℕ, cond, List, [], ◌++◌, Option, None, Some, codes, decimal}
use Rattle.listed_nodes.specs.declared.node_line.NodeLine.{NodeLine}
use Rattle.server_commands.specs.declared.book.Server.{Server}
use Rattle.survey_texts.specs.Texts.{node_text}
use Rattle.node_forgetting.specs.declared.hold.Hold.{Hold}
use Rattle.node_forgetting.specs.declared.hold.Hold.TheVariants.{Marked, Named, Owns}

-- ---- why the node is kept

abbrev pub hold_text : Hold → List ℕ
hold_text (Owns n at s) = codes "slot " ++ (decimal s ++ (codes " belongs to " ++ (node_text n
    ++ (codes " in the table of " ++ (node_text at ++ codes "; move its slots first (reshard plan-drain)")))))
hold_text (Named n at s) = codes "the mark of slot " ++ (decimal s ++ (codes " at " ++ (node_text at
    ++ (codes " names " ++ (node_text n ++ codes "; close the slot first (reshard resume)")))))
hold_text (Marked n s) =
    codes "slot " ++ (decimal s ++ (codes " has a mark at " ++ (node_text n
    ++ codes "; close the slot first (reshard resume)")))

-- `127.0.0.1:7003`
abbrev pub address_text : (host : List ℕ) → (port : ℕ) → List ℕ
address_text host port = host ++ (codes ":" ++ decimal port)

-- a replica follows it
abbrev pub follower_text : (node : ℕ) → NodeLine → List ℕ
follower_text n r = address_text r.host r.port
    ++ (codes " is a replica of " ++ (node_text n ++ codes "; let it follow another master first (CLUSTER REPLICATE)"))

-- ---- what became of the nodes that are told

-- `; send it CLUSTER FORGET ID within a minute`
abbrev pub by_hand_text : (id : List ℕ) → List ℕ
by_hand_text id = codes "; send it CLUSTER FORGET " ++ (id ++ codes " within a minute\n")

-- `127.0.0.1:7005 is not told, as it gave no answer; send it CLUSTER FORGET ID within a minute`
abbrev pub untold_line : (id : List ℕ) → Server → (reason : List ℕ) → List ℕ
untold_line id s reason = address_text s.host s.port ++ (codes " is not told, as " ++ (reason ++ by_hand_text id))

-- a line for a node that was not told
abbrev pub outcome_line : (id : List ℕ) → Server → Option (List ℕ) → List ℕ
outcome_line id s None = []
outcome_line id s (Some reason) = untold_line id s reason

-- `4 of `, where not all are told
abbrev pub part_text : (told count : ℕ) → List ℕ
part_text told count = cond (told == count) [] (decimal told ++ codes " of ")

-- `5 nodes`, `1 node` or `4 of 5 nodes`
abbrev pub share_text : (told count : ℕ) → List ℕ
share_text told count =
    part_text told count ++ (decimal count ++ cond (count == 1) (codes " node\n") (codes " nodes\n"))

-- `n3 127.0.0.1:7003 is forgotten at 5 nodes`
abbrev pub forgotten_line : (node : ℕ) → Server → (told count : ℕ) → List ℕ
forgotten_line n s told count =
    node_text n ++ (codes " " ++ (address_text s.host s.port ++ (codes " is forgotten at " ++ share_text told count)))
