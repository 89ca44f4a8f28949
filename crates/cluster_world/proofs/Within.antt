-- The nodes of a world as the program keeps them, and as the definitions see them.
use Rattle.std.proofs.Common.{◌≡◌, ℕ, ◌<◌, ◌≤◌, List, length, map, get_or, sym, ap, subst, ◌∙◌, inl, inr, Result, Ok, Err, OnOk, OnErr, rules, Bool}
use Rattle.std.proofs.lemmas.Bool.{cases_eq}
use Rattle.std.proofs.lemmas.List.{map-set, get_or-set_same, get_or-set_other, length-map, get_or_default}
use Rattle.std.proofs.Math.ListN.{set, length-set, get_or-map}
use Rattle.store_commands.specs.Store.{Store}
use Rattle.client_commands.specs.declared.command.Command.{Command}
use Rattle.cluster_node.specs.Nodes.{Node, client_node}
use Rattle.cluster_node.specs.Memory.{ClientTakesMemory}
use Rattle.cluster_node.specs.NodeView.{NodeView}
use Rattle.cluster_world.specs.Worlds.{World, node_at, change_node}
use Rattle.cluster_world.specs.WorldView.{blank_view, view_at, IsNode, AreNodes, world_of}

pub record Found (port : ℕ) (xs : List NodeView) (n : ℕ) (x : NodeView) : Type 0 where
  pub me : x.me ≡ n
  pub count : x.nodes ≡ length (world_of port xs).nodes
  pub port_is : x.base_port ≡ port
  pub node : x.node ≡ node_at (world_of port xs) n
  pub there : n < length xs

-- the node that stands at a place of the list
pub found : (port : ℕ) (xs : List NodeView) (i n : ℕ) (x : NodeView) → AreNodes port xs → i ≡ n → n < length (world_of port xs).nodes → x ≡ get_or xs i x → Found port xs n x
found port xs i n x are at there is = record {
  me = ap (λ y. y.me) here ∙ (are.each n inside).me;
  count = ap (λ y. y.nodes) here ∙ (are.each n inside).nodes ∙ sym (length-map xs (λ y. y.node));
  port_is = ap (λ y. y.base_port) here ∙ (are.each n inside).port_is;
  node = ap (λ y. y.node) here ∙ sym (get_or-map (λ y. y.node) xs n blank_view);
  there = inside;
}
  where
    inside : n < length xs
    inside = subst (λ l. n < l) (length-map xs (λ y. y.node)) there

    here : x ≡ view_at xs n
    here = is ∙ ap (λ j. get_or xs j x) at ∙ get_or_default xs n x blank_view inside

-- one node is replaced
pub world-set : (port : ℕ) (xs : List NodeView) (i n : ℕ) (y : NodeView) → i ≡ n → world_of port (set xs i y) ≡ change_node (world_of port xs) n y.node
world-set port xs i n y at = ap (λ ns. record { base_port = port; nodes = ns }) (map-set (λ z. z.node) xs i y ∙ ap (λ j. set (map (λ z. z.node) xs) j y.node) at)

-- by one that has its number, and the same cluster
pub nodes-set : (port : ℕ) (xs : List NodeView) (i n : ℕ) (x y : NodeView) → AreNodes port xs → i ≡ n → Found port xs n x → y.me ≡ x.me → y.nodes ≡ x.nodes → y.base_port ≡ x.base_port → AreNodes port (set xs i y)
nodes-set port xs i n x y are at f me nodes port_is = record {
  each = λ j h. one j (subst (λ l. j < l) (length-set xs i y) h);
  least = subst (λ l. 1 ≤ l) (sym (length-set xs i y)) are.least;
  most = subst (λ l. l ≤ 255) (sym (length-set xs i y)) are.most;
  port_most = are.port_most;
}
  where
    there : i < length xs
    there = subst (λ j. j < length xs) (sym at) f.there

    here : IsNode port (length xs) i y
    here = record {
      me = me ∙ f.me ∙ sym at;
      nodes = nodes ∙ f.count ∙ length-map xs (λ z. z.node);
      port_is = port_is ∙ f.port_is;
    }

    one : (j : ℕ) → j < length xs → IsNode port (length (set xs i y)) j (view_at (set xs i y) j)
    one j h = subst (λ l. IsNode port l j (view_at (set xs i y) j)) (sym (length-set xs i y)) (elim (cases_eq j i) [
      | inl e ↦ subst (λ k. IsNode port (length xs) k (view_at (set xs i y) k)) (sym e) (subst (IsNode port (length xs) i) (sym (get_or-set_same xs i y blank_view there)) here)
      | inr e ↦ subst (IsNode port (length xs) j) (sym (get_or-set_other xs i j y blank_view e)) (are.each j h)
    ])

-- a client's command at one node is that command at the world
pub client-set : (port : ℕ) (xs : List NodeView) (i n : ℕ) (x y : NodeView) (w : World) (asking : Bool) (c : Command) → i ≡ n → Found port xs n x → world_of port xs ≡ w
    → y ≡ record x { node = client_node x.me x.node asking c } → world_of port (set xs i y) ≡ change_node w n (client_node n (node_at w n) asking c)
client-set port xs i n x y w asking c at f is e =
    world-set port xs i n y at
    ∙ ap (change_node (world_of port xs) n) (ap (λ z. z.node) e ∙ ap (λ m. client_node m x.node asking c) f.me ∙ ap (λ z. client_node n z asking c) f.node)
    ∙ ap (λ v. change_node v n (client_node n (node_at v n) asking c)) is

-- and so is where memory may run out
pub client-memory : {A E : Type 0} (port : ℕ) (xs : List NodeView) (n : ℕ) (x : NodeView) (w : World) (asking : Bool) (c : Command) (r : Result A E) → Found port xs n x → world_of port xs ≡ w
    → OnErr r (ClientTakesMemory x.base_port x.me x.node asking c) → OnErr r (ClientTakesMemory w.base_port n (node_at w n) asking c)
client-memory port xs n x w asking c (Ok a) f is may = tt
client-memory port xs n x w asking c (Err e) f is may =
    subst (λ v. ClientTakesMemory v.base_port n (node_at v n) asking c) is
    (subst (λ z. ClientTakesMemory port n z asking c) f.node (subst (λ m. ClientTakesMemory port m x.node asking c) f.me (subst (λ p. ClientTakesMemory p x.me x.node asking c) f.port_is may)))

pub on_ok_then : {A E : Type 0} (r : Result A E) {P Q : Type 0} → (P → Q) → OnOk r P → OnOk r Q
on_ok_then (Ok x) f p = f p
on_ok_then (Err e) f p = search rules

-- the node's own store is another
pub held-set : (port : ℕ) (xs : List NodeView) (i n : ℕ) (x y : NodeView) (w : World) (f : Store → Store) → i ≡ n → Found port xs n x → world_of port xs ≡ w
    → y ≡ record x { node = record x.node { held = f x.node.held } } → world_of port (set xs i y) ≡ change_node w n (record (node_at w n) { held = f (node_at w n).held })
held-set port xs i n x y w f at here is e =
    world-set port xs i n y at
    ∙ ap (change_node (world_of port xs) n) (ap (λ (z : NodeView). z.node) e ∙ ap {A = Node} {B = Node} (λ z. record z { held = f z.held }) here.node)
    ∙ ap (λ v. change_node v n (record (node_at v n) { held = f (node_at v n).held })) is

pub on_err : {A E : Type 0} (r : Result A E) {P : Type 0} → P → OnErr r P
on_err (Ok x) p = search rules
on_err (Err e) p = p
