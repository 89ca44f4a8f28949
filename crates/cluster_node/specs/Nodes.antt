-- A node: the keys that it holds, and its table of slots (Redis Cluster specification, "Cluster live reconfiguration").
use Rattle.std.specs.Prelude.{ℕ, Bool, true, false, cond, ◌||◌, List, [], map, is_some, slice_index, refl}
use Rattle.std.specs.FinMap as finite
use Rattle.std.specs.Coded.{Coded, code_by, coded×, coded_list, coded_ℕ}
use Rattle.typed_values.specs.contracts.value.Value as value
use Rattle.resp2_wire.specs.declared.reply.Reply.{Reply}
use Rattle.store_commands.specs.Store.{Key, Store}
use Rattle.store_commands.specs.Apply.{answer, apply}
use Rattle.client_commands.specs.Commands.{keys}
use Rattle.client_commands.specs.declared.command.Command.{Command}
use Rattle.slot_marks.specs.Tables.{Marks, Table, marks_code}
use Rattle.slot_marks.specs.Verdicts.{first_slot, judged}
use Rattle.slot_marks.specs.declared.verdict.Verdict.{Verdict}
use Rattle.slot_marks.specs.declared.verdict.Verdict.TheVariants.{Serve, Moved, Ask, TryAgain, CrossSlot}
use Rattle.cluster_node.specs.Redirections.{redirection, slots_reply}

pub record Node : Type 0 where
  pub held : Store
  pub owners : List ℕ
  pub migrating : Marks
  pub importing : Marks

abbrev pub node_code : Coded Node
node_code =
    code_by (Store × (List ℕ × (Marks × Marks)))
    (coded× (finite.code (coded_list coded_ℕ) value.the_row.coded)
    (coded× (coded_list coded_ℕ) (coded× marks_code marks_code)))
    (λ x. (x.held, (x.owners, (x.migrating, x.importing))))
    (λ p. record { held = p.0; owners = p.1.0; migrating = p.1.1.0; importing = p.1.1.1 }) (λ _. refl)

-- a node that holds nothing and owns nothing
abbrev pub blank : Node
blank = record { held = finite.empty; owners = []; migrating = finite.empty; importing = finite.empty }

-- the node's table, if it is the node `me` among so many
abbrev pub table_of : (me nodes : ℕ) → Node → Table
table_of me n x = record { me = me; nodes = n; owners = x.owners; migrating = x.migrating; importing = x.importing }

abbrev pub is_present : Node → Key → Bool
is_present x k = is_some (finite.get x.held k)

-- the slot goes elsewhere or comes from elsewhere
abbrev pub is_marked : Node → ℕ → Bool
is_marked x s = is_some (finite.get x.migrating s) || is_some (finite.get x.importing s)

-- the verdict on a command that names these keys: a key is present where the node holds it
unfoldable pub node_verdict : (me : ℕ) → Node → Bool → List Key → Verdict
node_verdict me x asking ks =
    judged me (slice_index x.owners (first_slot ks)) (finite.get x.migrating (first_slot ks))
    (finite.get x.importing (first_slot ks)) asking ks (map (is_present x) ks)

abbrev pub is_serve : Verdict → Bool
is_serve Serve = true
is_serve (Moved n) = false
is_serve (Ask n) = false
is_serve TryAgain = false
is_serve CrossSlot = false

-- a client's command: where the verdict is to serve, the store answers and changes; otherwise the verdict is told and
-- nothing changes
unfoldable pub client_reply : (port me : ℕ) → Node → Bool → Command → Reply
client_reply port me x asking c =
    let v : Verdict = node_verdict me x asking (keys c) in
    cond (is_serve v) (answer x.held c) (redirection port (first_slot (keys c)) v)

unfoldable pub client_node : (me : ℕ) → Node → Bool → Command → Node
client_node me x asking c = cond (is_serve (node_verdict me x asking (keys c))) (record x { held = apply x.held c }) x

-- CLUSTER SLOTS
abbrev pub look_reply : (port : ℕ) → Node → Reply
look_reply port x = slots_reply port x.owners
