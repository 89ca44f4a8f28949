use Rattle.std.proofs.Common.{◌≡◌, ◌<◌, ◌≤◌, ◌++◌, ◌∷◌, [], length, get_or, arith, refl, sym, subst, ap, ◌∙◌}
use Rattle.std.proofs.lemmas.List.{length-append, length-map}
use Rattle.cluster_world.specs.Worlds.{row_of, survey_of, node_at}
use Rattle.cluster_world.proofs.Within.{Found, found}
use Rattle.cluster_admin.proofs.Surveyed.{all_copied, none_copied, survey_copied}
use Rattle.cluster_world.proofs.Surveyed.{node_copied, world_row}
use Rattle.cluster_world.proofs.world.World.survey.Goals as goal
use Rattle.cluster_world.proofs.world.World.survey.Goals.{After-table, After-loop-node}

-- the node of this turn, as the program keeps it
here : (c : After-table) → Found c.self.inside.base_port c.self.inside.nodes.items c.loop-node.node-index c.node-item.result
here c =
    let xs = c.self.inside.nodes.items in
    let inside : c.loop-node.node-index < length xs = subst (λ ys. c.loop-node.node-index < length ys) c.deref-node-items.ensures.value c.loop-node-test.true in
    found c.self.inside.base_port xs c.loop-node.node-index c.loop-node.node-index c.node-item.result c.self.invariant refl
    (subst (λ l. c.loop-node.node-index < l) (sym (length-map xs (λ y. y.node))) inside)
    (subst (λ ys. c.node-item.result ≡ get_or ys c.loop-node.node-index c.node-item.result) c.deref-node-items.ensures.value c.node-item.is)

-- how many nodes there are
size : (c : After-loop-node) → length c.args.self.now.nodes ≡ length c.self.inside.nodes.items
size c = ap (λ w. length w.nodes) (sym c.self.view_is) ∙ length-map c.self.inside.nodes.items (λ y. y.node)

all : (c : After-loop-node) → length c.loop-node.tables.items ≡ length c.args.self.now.nodes
all c =
    let end : length c.self.inside.nodes.items ≤ c.loop-node.node-index = subst (λ ys. length ys ≤ c.loop-node.node-index) c.deref-node-items.ensures.value c.loop-node-test.false in
    let most : c.loop-node.node-index ≤ length c.self.inside.nodes.items = subst (λ ys. c.loop-node.node-index ≤ length ys) c.deref-node-items.ensures.value c.loop-node.auto.node-index-end in
    omega (arith, size c, end, most, c.loop-node.invariant.0)

pub loop-node-init : goal.loop-node-init
loop-node-init c = (ap length c.in_ok-tables.ensures.items, none_copied (length c.args.self.now.nodes) (λ n. row_of (node_at c.args.self.now n)) c.in_ok-tables.tables.items c.in_ok-tables.ensures.items)

pub loop-node-preserved : goal.loop-node-preserved
loop-node-preserved c =
    let f = here (goal.at.loop-node-preserved c).After-table in
    let count : length c.add_copy.new.tables.items ≡ length (c.loop-node.tables.items ++ c.table.result.now ∷ []) = ap length c.in_ok-add_copy.ensures.items in (
      omega (arith, count, length-append c.loop-node.tables.items (c.table.result.now ∷ []), c.loop-node.invariant.0),
      node_copied c.args.self.now c.node-item.result c.loop-node.node-index c.table.result.now c.loop-node.tables.items c.add_copy.new.tables.items
          c.loop-node.invariant.0 c.loop-node.invariant.1 c.in_ok-add_copy.ensures.items c.table.ensures c.in_ok-add_copy.ensures.whole f.me
          (f.count ∙ ap (λ w. length w.nodes) c.self.view_is) (f.node ∙ ap (λ w. node_at w c.loop-node.node-index) c.self.view_is),
    )

pub of-requires : goal.of-requires
of-requires c =
    let same = size c in
    all_copied (length c.args.self.now.nodes) (λ n. row_of (node_at c.args.self.now n)) c.loop-node.tables.items c.loop-node.invariant.1 (all c)
    (subst (λ l. 1 ≤ l) (sym same) c.self.invariant.least) (subst (λ l. l ≤ 255) (sym same) c.self.invariant.most)

pub returns : goal.returns
returns c =
    c.of.ensures
    ∙ survey_copied (length c.args.self.now.nodes) (λ n. row_of (node_at c.args.self.now n)) c.loop-node.tables.items (survey_of c.args.self.now)
    c.loop-node.invariant.1 (all (goal.at.returns c).After-loop-node) (length-map c.args.self.now.nodes row_of) (λ n h. sym (world_row c.args.self.now n))
