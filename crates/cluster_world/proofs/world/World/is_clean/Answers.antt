use Rattle.std.proofs.Common.{◌≡◌, ◌<◌, ◌≤◌, true, length, get_or, arith, rules, refl, sym, subst, ap, ◌∙◌, below_more}
use Rattle.std.specs.Prelude.{IsTrue}
use Rattle.std.proofs.lemmas.List.{length-map}
use Rattle.cluster_world.specs.Cleanness.{HasTable}
use Rattle.cluster_world.specs.Worlds.{node_at}
use Rattle.cluster_world.proofs.Within.{Found, found}
use Rattle.cluster_world.proofs.world.World.is_clean.Goals as goal
use Rattle.cluster_world.proofs.world.World.is_clean.Goals.{After-is_clean}

-- the node of this turn, as the program keeps it
here : (c : After-is_clean) → Found c.self.inside.base_port c.self.inside.nodes.items c.loop-node.node-index c.node-item.result
here c =
    let xs = c.self.inside.nodes.items in
    let inside : c.loop-node.node-index < length xs = subst (λ ys. c.loop-node.node-index < length ys) c.deref-node-items.ensures.value c.loop-node-test.true in
    found c.self.inside.base_port xs c.loop-node.node-index c.loop-node.node-index c.node-item.result c.self.invariant refl
    (subst (λ l. c.loop-node.node-index < l) (sym (length-map xs (λ y. y.node))) inside)
    (subst (λ ys. c.node-item.result ≡ get_or ys c.loop-node.node-index c.node-item.result) c.deref-node-items.ensures.value c.node-item.is)

-- and as contracts see it
seen : (c : After-is_clean) → c.node-item.result.node ≡ node_at c.args.self.now c.loop-node.node-index
seen c = (here c).node ∙ ap (λ w. node_at w c.loop-node.node-index) c.self.view_is

pub returns-then-not-is_clean : goal.returns-then-not-is_clean
returns-then-not-is_clean c =
    let at = (goal.at.returns-then-not-is_clean c).After-is_clean in
    let f = here at in
    let count : c.node-item.result.nodes ≡ length c.args.self.now.nodes = f.count ∙ ap (λ w. length w.nodes) c.self.view_is in
    let inside : c.loop-node.node-index < length c.args.self.now.nodes =
    subst (λ w. c.loop-node.node-index < length w.nodes) c.self.view_is (subst (λ l. c.loop-node.node-index < l) (sym (length-map c.self.inside.nodes.items (λ y. y.node))) f.there) in (
      λ h. search rules,
      λ u.
          let t : HasTable c.node-item.result.node c.args.owners.now.owners = subst (λ z. HasTable z c.args.owners.now.owners) (sym (seen at)) (u.nodes c.loop-node.node-index inside) in
          subst IsTrue c.if-not-is_clean.true (c.is_clean.ensures.1 (count ∙ u.count, t.owners_are, t.not_migrating, t.not_importing)),
    )

pub loop-node-preserved : goal.loop-node-preserved
loop-node-preserved c =
    let is : IsTrue true = search rules in
    let t = c.is_clean.ensures.0 (subst IsTrue (sym c.if-not-is_clean.false) is) in
    below_more _ _ c.loop-node.invariant
    (subst (λ z. HasTable z c.args.owners.now.owners) (seen (goal.at.loop-node-preserved c).After-is_clean) (record { owners_are = t.1; not_migrating = t.2; not_importing = t.3 }))

pub returns : goal.returns
returns c =
    let size : length c.args.self.now.nodes ≡ length c.self.inside.nodes.items = ap (λ w. length w.nodes) (sym c.self.view_is) ∙ length-map c.self.inside.nodes.items (λ y. y.node) in
    let end : length c.self.inside.nodes.items ≤ c.loop-node.node-index = subst (λ ys. length ys ≤ c.loop-node.node-index) c.deref-node-items.ensures.value c.loop-node-test.false in
    (λ h. record { count = sym c.nodes.ensures.value ∙ c.if-nodes.false ∙ c.nodes-2.ensures.value; nodes = λ m lt. c.loop-node.invariant m (omega (arith, size, end)) }, λ u. search rules)
