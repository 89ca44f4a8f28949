use Rattle.std.proofs.Common.{◌≡◌, ◌<◌, ◌≤◌, true, length, get_or, arith, rules, refl, sym, subst, ap, ◌∙◌, below_more}
use Rattle.std.specs.Prelude.{IsTrue}
use Rattle.std.proofs.lemmas.List.{length-map}
use Rattle.cluster_world.specs.Worlds.{node_at}
use Rattle.cluster_world.proofs.Within.{Found, found}
use Rattle.cluster_world.proofs.Surveyed.{rows_same, seen_of_table, table_of_seen}
use Rattle.cluster_world.proofs.world.World.matches.Goals as goal
use Rattle.cluster_world.proofs.world.World.matches.Goals.{After-table}

-- the node of this turn, as the program keeps it
here : (c : After-table) → Found c.self.inside.base_port c.self.inside.nodes.items c.loop-node.node-index c.node-item.result
here c =
    let xs = c.self.inside.nodes.items in
    let inside : c.loop-node.node-index < length xs = subst (λ ys. c.loop-node.node-index < length ys) c.deref-node-items.ensures.value c.loop-node-test.true in
    found c.self.inside.base_port xs c.loop-node.node-index c.loop-node.node-index c.node-item.result c.self.invariant refl
    (subst (λ l. c.loop-node.node-index < l) (sym (length-map xs (λ y. y.node))) inside)
    (subst (λ ys. c.node-item.result ≡ get_or ys c.loop-node.node-index c.node-item.result) c.deref-node-items.ensures.value c.node-item.is)

-- and as contracts see it
seen : (c : After-table) → c.node-item.result.node ≡ node_at c.args.self.now c.loop-node.node-index
seen c = (here c).node ∙ ap (λ w. node_at w c.loop-node.node-index) c.self.view_is

pub returns-then-not-has : goal.returns-then-not-has
returns-then-not-has c =
    let at = (goal.at.returns-then-not-has c).After-table in (
      λ h. search rules,
      λ u. subst IsTrue c.if-not-has.true (c.has.ensures.1 (table_of_seen c.args.self.now c.args.survey.now c.node-item.result c.loop-node.node-index c.table.result.now c.table.ensures (here at).me (seen at) u)),
    )

pub loop-node-preserved : goal.loop-node-preserved
loop-node-preserved c =
    let at = (goal.at.loop-node-preserved c).After-table in
    let is : IsTrue true = search rules in
    below_more _ _ c.loop-node.invariant
    (seen_of_table c.args.self.now c.args.survey.now c.node-item.result c.loop-node.node-index c.table.result.now c.table.ensures (here at).me (seen at)
    (c.has.ensures.0 (subst IsTrue (sym c.if-not-has.false) is)))

pub returns : goal.returns
returns c =
    let size : length c.args.self.now.nodes ≡ length c.self.inside.nodes.items = ap (λ w. length w.nodes) (sym c.self.view_is) ∙ length-map c.self.inside.nodes.items (λ y. y.node) in
    let end : length c.self.inside.nodes.items ≤ c.loop-node.node-index = subst (λ ys. length ys ≤ c.loop-node.node-index) c.deref-node-items.ensures.value c.loop-node-test.false in
    (λ h. rows_same c.args.self.now c.args.survey.now (sym c.nodes.ensures.value ∙ c.if-nodes.false ∙ c.nodes-2.ensures.value) (λ n lt. c.loop-node.invariant n (omega (arith, lt, size, end))), λ u. search rules)
