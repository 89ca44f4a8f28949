-- What a plan comes to, as a value of JSON. The members of an object stand in the order of their names, whichever is
-- put first.
use Rattle.std.specs.Prelude.{ℕ, ◌==◌, ◌&&◌, nat_lt, ◌∷◌, [], ◌++◌, Bool, not, List, Option, None, Some, codes, cond}
use Rattle.std.specs.Prelude.{decimal, map, find, is_some, option_map}
use Rattle.std.specs.List.{flat_map}
use Rattle.std.specs.Str.Lossy.{utf8_lossy}
use Rattle.serde_json.specs.Data.{Data, Members, array, boolean, no_members, null, number, object, put, string}
use Rattle.serde_json.specs.Data.{unsigned}
use Rattle.serde_json.specs.View.{items_of}
use Rattle.serde_json.specs.Written.{compact_text}
use Rattle.plan_outlines.specs.declared.counts.CommandCounts.{CommandCounts}
use Rattle.plan_outlines.specs.declared.counts.KeyLoad.{KeyLoad}
use Rattle.plan_outlines.specs.declared.nodes.NodeChange.{NodeChange}
use Rattle.plan_outlines.specs.declared.nodes.NodeServer.{NodeServer}
use Rattle.plan_outlines.specs.declared.outline.PlanOutline.{PlanOutline}
use Rattle.plan_outlines.specs.declared.pairs.PairChange.{PairChange}
use Rattle.plan_outlines.specs.declared.ranges.RangeChange.{RangeChange}
use Rattle.plan_outlines.specs.declared.ranges.SlotRun.{SlotRun}

-- ---- parts

abbrev pub count : ℕ → Data
count n = number (unsigned n)

-- null where it is not told
abbrev pub figure : Option ℕ → Data
figure None = null
figure (Some n) = count n

-- `n` and the number
abbrev pub node_text : (node : ℕ) → List ℕ
node_text n = 110 ∷ decimal n

abbrev pub node_data : (node : ℕ) → Data
node_data n = string (node_text n)

-- bytes that are no UTF-8 become U+FFFD
abbrev pub text_data : List ℕ → Data
text_data t = string (utf8_lossy t)

abbrev pub list_data : List Data → Data
list_data ds = array (items_of ds)

-- ---- pairs of nodes

-- the keys, where they are known
abbrev pub with_known : (has_keys : Bool) (keys : ℕ) → Members → Members
with_known has k ms = cond has (put (codes "keys") (count k) ms) ms

unfoldable pub with_pair : (has_keys : Bool) → PairChange → Members → Members
with_pair has p ms = with_known has p.keys (put (codes "slots") (count p.slots)
    (put (codes "target") (node_data p.target) (put (codes "source") (node_data p.source) ms)))

abbrev pub pair_data : (has_keys : Bool) → PairChange → Data
pair_data has p = object (with_pair has p no_members)

-- ---- nodes

-- it has slots before the plan, and none after it
abbrev pub is_emptied : NodeChange → Bool
is_emptied c = nat_lt 0 c.before && c.after == 0

unfoldable pub with_change : NodeChange → Members → Members
with_change c ms = put (codes "loses_its_last_slot") (boolean (is_emptied c)) (put (codes "slots_after") (count c.after)
    (put (codes "slots_before") (count c.before) (put (codes "node") (node_data c.node) ms)))

unfoldable pub with_address : NodeServer → Members → Members
with_address s ms = put (codes "id") (text_data s.name)
    (put (codes "port") (count s.port) (put (codes "host") (text_data s.host) ms))

unfoldable pub with_figures : NodeServer → Members → Members
with_figures s ms = put (codes "maxmemory") (figure s.max_memory)
    (put (codes "used_memory") (figure s.used_memory) (put (codes "keys") (figure s.keys) ms))

-- what the node's server tells, if there is one
abbrev pub with_server : Option NodeServer → Members → Members
with_server None ms = ms
with_server (Some s) ms = with_figures s (with_address s ms)

abbrev pub server_of : List NodeServer → (node : ℕ) → Option NodeServer
server_of ss n = find (λ s. s.node == n) ss

unfoldable pub with_node : List NodeServer → NodeChange → Members → Members
with_node ss c ms = with_server (server_of ss c.node) (with_change c ms)

abbrev pub node_change_data : List NodeServer → NodeChange → Data
node_change_data ss c = object (with_node ss c no_members)

-- ---- slots

unfoldable pub with_run : SlotRun → Members → Members
with_run r ms = put (codes "last") (count r.last) (put (codes "first") (count r.first) ms)

abbrev pub run_data : SlotRun → Data
run_data r = object (with_run r no_members)

unfoldable pub with_move : RangeChange → Members → Members
with_move r ms = put (codes "target") (node_data r.after) (put (codes "source") (node_data r.before)
    (put (codes "last") (count r.last) (put (codes "first") (count r.first) ms)))

abbrev pub move_data : RangeChange → Data
move_data r = object (with_move r no_members)

-- its slots have another owner after the plan
abbrev pub moves : RangeChange → Bool
moves r = not (r.before == r.after)

-- nothing for a range that stays
abbrev pub move_items : RangeChange → List Data
move_items r = cond (moves r) (move_data r ∷ []) []

-- ---- commands

unfoldable pub with_counts : CommandCounts → Members → Members
with_counts c ms = put (codes "stable") (count c.stable) (put (codes "node") (count c.node)
    (put (codes "drain") (count c.drain) (put (codes "migrating") (count c.migrating)
    (put (codes "importing") (count c.importing) ms))))

abbrev pub counts_data : CommandCounts → Data
counts_data c = object (with_counts c no_members)

-- ---- the whole

unfoldable pub with_verdict : (commands : ℕ) → Members → Members
with_verdict n ms = put (codes "commands") (count n) (put (codes "verdict") (string (codes "verified")) ms)

unfoldable pub with_moves : PlanOutline → List NodeServer → Members → Members
with_moves o ss ms = put (codes "moves") (list_data (flat_map move_items o.ranges.items))
    (put (codes "nodes") (list_data (map (node_change_data ss) o.nodes.items))
    (put (codes "pairs") (list_data (map (pair_data (is_some o.load)) o.pairs.items)) ms))

unfoldable pub with_commands : PlanOutline → Members → Members
with_commands o ms = put (codes "most_batch") (count o.most_batch)
    (put (codes "least_batch") (count o.least_batch) (put (codes "counts") (counts_data o.counts) ms))

unfoldable pub with_load : Option KeyLoad → Members → Members
with_load load ms = put (codes "most_calls") (figure (option_map (λ l. l.calls) load))
    (put (codes "keys_moved") (figure (option_map (λ l. l.keys) load)) ms)

unfoldable pub with_runs : PlanOutline → Members → Members
with_runs o ms = put (codes "moved_back") (list_data (map run_data o.moved_back.items))
    (put (codes "moved_again") (list_data (map run_data o.moved_again.items)) ms)

unfoldable pub with_stop : (most_open : ℕ) (resume : List ℕ) → Members → Members
with_stop n resume ms = put (codes "resume") (text_data resume) (put (codes "most_open") (count n) ms)

unfoldable pub with_outline : PlanOutline → List NodeServer → (commands : ℕ) (resume : List ℕ) → Members → Members
with_outline o ss n resume ms = with_stop o.most_open resume (with_runs o (with_load o.load
    (with_commands o (with_moves o ss (with_verdict n ms)))))

abbrev pub outline_data : PlanOutline → List NodeServer → (commands : ℕ) (resume : List ℕ) → Data
outline_data o ss n resume = object (with_outline o ss n resume no_members)

unfoldable pub with_refusal : (reason : List ℕ) → Members → Members
with_refusal reason ms = put (codes "reason") (string reason) (put (codes "verdict") (string (codes "refused")) ms)

abbrev pub refusal_data : (reason : List ℕ) → Data
refusal_data reason = object (with_refusal reason no_members)

-- its text, and a line feed
abbrev pub line_of : Data → List ℕ
line_of d = compact_text d ++ 10 ∷ []
