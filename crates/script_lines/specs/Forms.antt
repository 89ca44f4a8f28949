-- The forms of a script's lines after the first: what a line is, or its fault. Of several faults the form's comes
-- first, and then the leftmost.
use Rattle.std.specs.Prelude.{ℕ, ◌-◌, Bool, true, false, cond, ◌&&◌, nat_eq, nat_lt, List, [], ◌∷◌, length, take, drop}
use Rattle.std.specs.Prelude.{Option, None, Some, codes, Result, Ok, Err}
use Rattle.byte_texts.specs.Decimals.{number_in}
use Rattle.key_slots.specs.Numbers.{node_in, slot_in}
use Rattle.cluster_admin.specs.declared.admin.AdminCommand.{AdminCommand}
use Rattle.cluster_admin.specs.declared.admin.AdminCommand.TheVariants as admin
use Rattle.script_lines.specs.declared.fault.ScriptFault.{ScriptFault}
use Rattle.script_lines.specs.declared.fault.ScriptFault.TheVariants as fault
use Rattle.script_lines.specs.declared.sizes.ClusterSizes.{ClusterSizes}
use Rattle.script_lines.specs.declared.line.Line.{Line}
use Rattle.script_lines.specs.declared.line.Line.TheVariants.{Call, Admin, Step, Run, Honest, Abandon, Resume}
use Rattle.script_lines.specs.declared.verb.Verb.{Verb}
use Rattle.script_lines.specs.declared.verb.Verb.TheVariants as verb
use Rattle.script_lines.specs.declared.setting.Setting.{Setting}
use Rattle.script_lines.specs.declared.setting.Setting.TheVariants as setting
use Rattle.script_lines.specs.Batches.{one_batch}
use Rattle.script_lines.specs.Faults.{after}
use Rattle.script_lines.specs.Words.{text, stands_for, words}

-- ---- single words

abbrev pub found : {X : Type 0} → ScriptFault → Option X → Result X ScriptFault
found f None = Err f
found f (Some x) = Ok x

abbrev pub slot_word : List ℕ → Result ℕ ScriptFault
slot_word w = after (text w) (λ t. found fault.Number (slot_in t))

abbrev pub number_word : (least most : ℕ) → List ℕ → Result ℕ ScriptFault
number_word least most w = after (text w) (λ t. found fault.Number (number_in least most t))

-- one of the first so many nodes
abbrev pub node_below : ℕ → Option ℕ → Option ℕ
node_below nodes None = None
node_below nodes (Some i) = cond (nat_lt i nodes) (Some i) None

abbrev pub node_word : ℕ → List ℕ → Result ℕ ScriptFault
node_word nodes w = after (text w) (λ t. found fault.Node (node_below nodes (node_in t)))

-- ---- the words of a request: at most 1,024

abbrev pub texts : List (List ℕ) → Result (List (List ℕ)) ScriptFault
texts [] = Ok []
texts (w ∷ ws) = after (text w) (λ t. after (texts ws) (λ ts. Ok (t ∷ ts)))

abbrev pub request : List (List ℕ) → Result (List (List ℕ)) ScriptFault
request ws = cond (nat_lt 1024 (length ws)) (Err fault.Word) (texts ws)

-- ---- `at NODE WORD ..` and `asking NODE WORD ..`

abbrev pub call_form : ℕ → Bool → List (List ℕ) → Result Line ScriptFault
call_form nodes asking [] = Err fault.Verb
call_form nodes asking (n ∷ ws) =
    cond (nat_eq (length ws) 0) (Err fault.Verb)
    (after (node_word nodes n) (λ node. after (request ws) (λ r. Ok (Call node asking r))))

-- ---- `setslot SLOT importing NODE at NODE`, and so `migrating` and `node`, whose first node may be any of eight; and
-- `setslot SLOT stable at NODE`

abbrev pub setting_word : List ℕ → Result Setting ScriptFault
setting_word w =
    cond (stands_for (codes "importing") w) (Ok setting.Importing)
    (cond (stands_for (codes "migrating") w) (Ok setting.Migrating)
    (cond (stands_for (codes "node") w) (Ok setting.Node) (Err fault.Verb)))

-- the fixed words `importing at`, `migrating at` or `node at`
abbrev pub setting_words : (kind at : List ℕ) → Result Setting ScriptFault
setting_words kind at = after (setting_word kind) (λ s. cond (stands_for (codes "at") at) (Ok s) (Err fault.Verb))

abbrev pub slot_and_node : (slot other : List ℕ) → Result (ℕ × ℕ) ScriptFault
slot_and_node slot other = after (slot_word slot) (λ s. after (node_word 8 other) (λ o. Ok (s, o)))

abbrev pub set : Setting → ℕ → ℕ → AdminCommand
set setting.Importing slot other = admin.Importing slot other
set setting.Migrating slot other = admin.Migrating slot other
set setting.Node slot other = admin.SetNode slot other

abbrev pub setting_command : (slot kind other at : List ℕ) → Result AdminCommand ScriptFault
setting_command slot kind other at =
    after (setting_words kind at) (λ s. after (slot_and_node slot other) (λ p. Ok (set s p.0 p.1)))

abbrev pub stands_stable_at : (kind at : List ℕ) → Bool
stands_stable_at kind at = stands_for (codes "stable") kind && stands_for (codes "at") at

abbrev pub stable_command : (slot kind at : List ℕ) → Result AdminCommand ScriptFault
stable_command slot kind at =
    cond (stands_stable_at kind at) (after (slot_word slot) (λ s. Ok (admin.Stable s))) (Err fault.Verb)

-- the command at the node that the word names
abbrev pub at_node : ℕ → Result AdminCommand ScriptFault → List ℕ → Result Line ScriptFault
at_node nodes command node = after command (λ c. after (node_word nodes node) (λ n. Ok (Admin n c)))

abbrev pub setting_form : ℕ → List (List ℕ) → Result Line ScriptFault
setting_form nodes (slot ∷ kind ∷ other ∷ at ∷ node ∷ []) = at_node nodes (setting_command slot kind other at) node
setting_form nodes ws = Err fault.Verb

abbrev pub stable_form : ℕ → List (List ℕ) → Result Line ScriptFault
stable_form nodes (slot ∷ kind ∷ at ∷ node ∷ []) = at_node nodes (stable_command slot kind at) node
stable_form nodes ws = Err fault.Verb

abbrev pub setslot_form : ℕ → List (List ℕ) → Result Line ScriptFault
setslot_form nodes ws = cond (nat_eq (length ws) 4) (stable_form nodes ws) (setting_form nodes ws)

-- ---- `getkeysinslot SLOT COUNT at NODE`

abbrev pub listing_command : (slot count : List ℕ) → Result AdminCommand ScriptFault
listing_command slot count = after (slot_word slot) (λ s. after (number_word 1 1000 count) (λ c. Ok (admin.KeysIn s c)))

abbrev pub getkeysinslot_form : ℕ → List (List ℕ) → Result Line ScriptFault
getkeysinslot_form nodes (slot ∷ count ∷ at ∷ node ∷ []) =
    cond (stands_for (codes "at") at) (at_node nodes (listing_command slot count) node) (Err fault.Verb)
getkeysinslot_form nodes ws = Err fault.Verb

-- ---- `migrate KEY .. at NODE to NODE`: at most 1,000 keys, each once, and all of one slot

abbrev pub batch : List (List ℕ) → Result (List (List ℕ)) ScriptFault
batch ws = cond (nat_lt 1000 (length ws)) (Err fault.Word) (after (texts ws) one_batch)

abbrev pub route : ℕ → (source target : List ℕ) → Result (ℕ × ℕ) ScriptFault
route nodes source target = after (node_word nodes source) (λ s. after (node_word nodes target) (λ t. Ok (s, t)))

abbrev pub moving : ℕ → List (List ℕ) → (source target : List ℕ) → Result Line ScriptFault
moving nodes keys source target =
    after (batch keys) (λ ks. after (route nodes source target) (λ r. Ok (Admin r.0 (admin.Migrate ks r.1))))

abbrev pub stands_at_to : (at to : List ℕ) → Bool
stands_at_to at to = stands_for (codes "at") at && stands_for (codes "to") to

-- the keys, and the four words after them
abbrev pub route_form : ℕ → (keys remaining : List (List ℕ)) → Result Line ScriptFault
route_form nodes keys (at ∷ source ∷ to ∷ target ∷ []) =
    cond (stands_at_to at to) (moving nodes keys source target) (Err fault.Verb)
route_form nodes keys ws = Err fault.Verb

abbrev pub migrate_form : ℕ → List (List ℕ) → Result Line ScriptFault
migrate_form nodes ws =
    cond (nat_lt 4 (length ws)) (route_form nodes (take (length ws - 4) ws) (drop (length ws - 4) ws)) (Err fault.Verb)

-- ---- a line is a verb and the words of its form

abbrev pub verb_word : List ℕ → Option Verb
verb_word w =
    cond (stands_for (codes "at") w) (Some verb.At)
    (cond (stands_for (codes "asking") w) (Some verb.Asking)
    (cond (stands_for (codes "setslot") w) (Some verb.SetSlot)
    (cond (stands_for (codes "getkeysinslot") w) (Some verb.GetKeysInSlot)
    (cond (stands_for (codes "migrate") w) (Some verb.Migrate)
    (cond (stands_for (codes "step") w) (Some verb.Step)
    (cond (stands_for (codes "run") w) (Some verb.Run)
    (cond (stands_for (codes "honest") w) (Some verb.Honest)
    (cond (stands_for (codes "abandon") w) (Some verb.Abandon)
    (cond (stands_for (codes "resume") w) (Some verb.Resume) None)))))))))

-- a line of one word, after which nothing stands
abbrev pub alone : Line → List (List ℕ) → Result Line ScriptFault
alone line ws = cond (nat_eq (length ws) 0) (Ok line) (Err fault.Verb)

-- `resume by BATCH`
abbrev pub resume_form : List (List ℕ) → Result Line ScriptFault
resume_form (by ∷ batch ∷ []) =
    cond (stands_for (codes "by") by) (after (number_word 1 1000 batch) (λ b. Ok (Resume b))) (Err fault.Verb)
resume_form ws = Err fault.Verb

abbrev pub verb_form : ℕ → Verb → List (List ℕ) → Result Line ScriptFault
verb_form nodes verb.At ws = call_form nodes false ws
verb_form nodes verb.Asking ws = call_form nodes true ws
verb_form nodes verb.SetSlot ws = setslot_form nodes ws
verb_form nodes verb.GetKeysInSlot ws = getkeysinslot_form nodes ws
verb_form nodes verb.Migrate ws = migrate_form nodes ws
verb_form nodes verb.Step ws = alone Step ws
verb_form nodes verb.Run ws = alone Run ws
verb_form nodes verb.Honest ws = alone Honest ws
verb_form nodes verb.Abandon ws = alone Abandon ws
verb_form nodes verb.Resume ws = resume_form ws

abbrev pub words_form : ℕ → List (List ℕ) → Result Line ScriptFault
words_form nodes [] = Err fault.Verb
words_form nodes (w ∷ ws) = after (found fault.Verb (verb_word w)) (λ v. verb_form nodes v ws)

abbrev pub line_form : ℕ → List ℕ → Result Line ScriptFault
line_form nodes t = after (words t) (words_form nodes)

-- ---- the first line: `cluster NODES`, or `cluster NODES even OWNING`

abbrev pub sizes : (nodes owning : List ℕ) → Result ClusterSizes ScriptFault
sizes nodes owning =
    after (number_word 1 8 nodes) (λ n. after (number_word 1 n owning) (λ m. Ok (record { nodes = n; owning = m })))

abbrev pub cluster_form : List (List ℕ) → Result ClusterSizes ScriptFault
cluster_form (cluster ∷ nodes ∷ []) =
    cond (stands_for (codes "cluster") cluster) (sizes nodes nodes) (Err fault.NoCluster)
cluster_form (cluster ∷ nodes ∷ even ∷ owning ∷ []) =
    cond (stands_for (codes "cluster") cluster)
    (cond (stands_for (codes "even") even) (sizes nodes owning) (Err fault.NoCluster)) (Err fault.NoCluster)
cluster_form ws = Err fault.NoCluster

-- each fault of the words is one of the form
abbrev pub opening_of : Result (List (List ℕ)) ScriptFault → Result ClusterSizes ScriptFault
opening_of (Ok ws) = cluster_form ws
opening_of (Err f) = Err fault.NoCluster

-- how many nodes, and how many of them own slots
abbrev pub opening : List ℕ → Result ClusterSizes ScriptFault
opening t = opening_of (words t)
