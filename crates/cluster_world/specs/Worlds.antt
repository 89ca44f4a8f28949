-- A world: nodes, numbered from 0, and the port of the first.
use Rattle.std.specs.Prelude.{ℕ, Bool, List, Option, slice_index, slice_index_or, slice_set, refl, map}
use Rattle.std.specs.FinMap as finite
use Rattle.std.specs.Coded.{Coded, code_by, coded×, coded_list, coded_ℕ}
use Rattle.typed_values.specs.declared.value.Value.{Value}
use Rattle.store_commands.specs.Store.{Key}
use Rattle.slot_marks.specs.declared.verdict.Verdict.{Verdict}
use Rattle.cluster_node.specs.Nodes.{Node, node_code, blank, node_verdict}
use Rattle.cluster_admin.specs.Surveys.{Row, Survey}

pub record World : Type 0 where
  pub base_port : ℕ
  pub nodes : List Node

abbrev pub world_code : Coded World
world_code = code_by (ℕ × List Node) (coded× coded_ℕ (coded_list node_code)) (λ w. (w.base_port, w.nodes))
    (λ p. record { base_port = p.0; nodes = p.1 }) (λ _. refl)

abbrev pub node_at : World → ℕ → Node
node_at w n = slice_index_or w.nodes n blank

-- what a node has on a slot, and at a key
abbrev pub owner : World → ℕ → ℕ → ℕ
owner w n s = slice_index (node_at w n).owners s

abbrev pub migrating : World → ℕ → ℕ → Option ℕ
migrating w n s = finite.get (node_at w n).migrating s

abbrev pub importing : World → ℕ → ℕ → Option ℕ
importing w n s = finite.get (node_at w n).importing s

abbrev pub held : World → ℕ → Key → Option Value
held w n k = finite.get (node_at w n).held k

abbrev pub change_node : World → ℕ → Node → World
change_node w n x = record w { nodes = slice_set w.nodes n x }

-- the verdict of the node n
abbrev pub verdict : World → ℕ → Bool → List Key → Verdict
verdict w n asking ks = node_verdict n (node_at w n) asking ks

abbrev pub row_of : Node → Row
row_of x = record { owners = x.owners; migrating = x.migrating; importing = x.importing }

-- the survey of a world
abbrev pub survey_of : World → Survey
survey_of w = record { rows = map row_of w.nodes }
