-- What each node has after a change of one node.
use Rattle.std.proofs.Common.{◌≡◌, ◌≢◌, ℕ, ◌<◌, length, sym, ap, ◌∙◌, subst, inl, inr}
use Rattle.std.proofs.lemmas.Bool.{cases_eq}
use Rattle.std.proofs.lemmas.List.{get_or-set_same, get_or-set_other}
use Rattle.std.proofs.Math.ListN.{length-set}
use Rattle.cluster_node.specs.Nodes.{Node, blank}
use Rattle.cluster_world.specs.Worlds.{World, node_at, change_node}

pub node_same : (w : World) (n : ℕ) (x : Node) → n < length w.nodes → node_at (change_node w n x) n ≡ x
node_same w n x h = get_or-set_same w.nodes n x blank h

pub node_other : (w : World) (n : ℕ) (x : Node) (m : ℕ) → m ≢ n → node_at (change_node w n x) m ≡ node_at w m
node_other w n x m h = get_or-set_other w.nodes n m x blank h

-- what the new node has in common with the old one, every node keeps
pub field_kept : {A : Type 0} (f : Node → A) (w : World) (n : ℕ) (x : Node) → n < length w.nodes → f x ≡ f (node_at w n) → (m : ℕ) → f (node_at (change_node w n x) m) ≡ f (node_at w m)
field_kept f w n x h same m = elim (cases_eq m n) [
  | inl e ↦ subst (λ k. f (node_at (change_node w n x) k) ≡ f (node_at w k)) (sym e) (ap f (node_same w n x h) ∙ same)
  | inr e ↦ ap f (node_other w n x m e)
]

pub length_kept : (w : World) (n : ℕ) (x : Node) → length (change_node w n x).nodes ≡ length w.nodes
length_kept w n x = length-set w.nodes n x
