-- Tables that were copied from nodes one after the other, and the survey that they are.
use Rattle.std.proofs.Common.{◌≡◌, ℕ, ◌<◌, List, [], ◌∷◌, ◌++◌, length, map, sym, ap, ◌∙◌, subst}
use Rattle.std.proofs.lemmas.List.{ext_get_or, length-map}
use Rattle.std.proofs.Math.ListN.{get_or-map}
use Rattle.slot_marks.specs.Tables.{Table}
use Rattle.cluster_node.specs.Nodes.{blank, table_of}
use Rattle.cluster_node.specs.NodeView.{NodeView}
use Rattle.cluster_world.specs.Worlds.{World, node_at, row_of, survey_of}
use Rattle.cluster_admin.specs.Surveys.{Survey, closed_row, row_at, row_of_table, IsWhole}
use Rattle.cluster_admin.proofs.Surveyed.{Copied, one_copied}

-- ---- a world's nodes

pub world_row : (w : World) (n : ℕ) → row_at (survey_of w) n ≡ row_of (node_at w n)
world_row w n = get_or-map row_of w.nodes n blank

pub rows_same : (w : World) (v : Survey) → length w.nodes ≡ length v.rows
    → ((n : ℕ) → n < length w.nodes → row_at v n ≡ row_of (node_at w n)) → survey_of w ≡ v
rows_same w v many same = ap (λ rs. record { rows = rs })
    (ext_get_or (closed_row []) (map row_of w.nodes) v.rows (length-map w.nodes row_of ∙ many)
    (λ n h. world_row w n ∙ sym (same n (subst (λ k. n < k) (length-map w.nodes row_of) h))))

-- a node's table, copied
pub node_copied : (w : World) (x : NodeView) (i : ℕ) (t : Table) (ts ts' : List Table) → length ts ≡ i
    → Copied (length w.nodes) (λ n. row_of (node_at w n)) ts → ts' ≡ ts ++ t ∷ [] → t ≡ table_of x.me x.nodes x.node → IsWhole t
    → x.me ≡ i → x.nodes ≡ length w.nodes → x.node ≡ node_at w i → Copied (length w.nodes) (λ n. row_of (node_at w n)) ts'
node_copied w x i t ts ts' far_is far is from whole me nodes node =
    one_copied (length w.nodes) (λ n. row_of (node_at w n)) ts ts' t far is
    (record { me = ap (λ u. u.me) from ∙ me ∙ sym far_is; nodes = ap (λ u. u.nodes) from ∙ nodes; whole = whole })
    (ap row_of_table from ∙ ap row_of node ∙ ap (λ k. row_of (node_at w k)) (sym far_is))

-- a node's table shows what the node has
table_row : (w : World) (x : NodeView) (i : ℕ) (t : Table) → t ≡ table_of x.me x.nodes x.node → x.node ≡ node_at w i
    → row_of_table t ≡ row_of (node_at w i)
table_row w x i t from node = ap row_of_table from ∙ ap row_of node

pub seen_of_table : (w : World) (v : Survey) (x : NodeView) (i : ℕ) (t : Table) → t ≡ table_of x.me x.nodes x.node → x.me ≡ i
    → x.node ≡ node_at w i → row_at v t.me ≡ row_of_table t → row_at v i ≡ row_of (node_at w i)
seen_of_table w v x i t from me node e =
    ap (row_at v) (sym (ap (λ u. u.me) from ∙ me)) ∙ e ∙ table_row w x i t from node

pub table_of_seen : (w : World) (v : Survey) (x : NodeView) (i : ℕ) (t : Table) → t ≡ table_of x.me x.nodes x.node → x.me ≡ i
    → x.node ≡ node_at w i → survey_of w ≡ v → row_at v t.me ≡ row_of_table t
table_of_seen w v x i t from me node is =
    ap (row_at v) (ap (λ u. u.me) from ∙ me) ∙ ap (λ u. row_at u i) (sym is) ∙ world_row w i ∙ sym (table_row w x i t from node)
