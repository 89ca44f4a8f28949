-- A node of the program: its number, how many nodes there are, the port of the first, and the node.
use Rattle.std.specs.Prelude.{ℕ, ◌≤◌, refl}
use Rattle.std.specs.Coded.{Coded, code_by, coded×, coded_ℕ}
use Rattle.store_commands.specs.Store.{Store}
use Rattle.store_commands.specs.NoEmptyCollections.{HasNoEmptyCollection}
use Rattle.cluster_node.specs.Nodes.{Node, node_code}

pub record NodeView : Type 0 where
  pub me : ℕ
  pub nodes : ℕ
  pub base_port : ℕ
  pub node : Node

abbrev pub node_view_code : Coded NodeView
node_view_code =
    code_by (ℕ × (ℕ × (ℕ × Node))) (coded× coded_ℕ (coded× coded_ℕ (coded× coded_ℕ node_code)))
    (λ x. (x.me, (x.nodes, (x.base_port, x.node))))
    (λ p. record { me = p.0; nodes = p.1.0; base_port = p.1.1.0; node = p.1.1.1 }) (λ _. refl)

-- what a node keeps: the ports of the first eight nodes are ports, and no empty collection stands at a key
pub record IsKept (port : ℕ) (held : Store) : Type 0 where
  pub is_port : port ≤ 65528
  pub whole : HasNoEmptyCollection held
