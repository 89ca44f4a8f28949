use Rattle.std.proofs.Common.{◌≡◌, ℕ, ◌<◌, ◌≤◌, ◌∙◌, sym, arith, inl, inr}
use Rattle.std.proofs.lemmas.Bool.{cases_eq}
use Rattle.key_slots.proofs.OwnerTables.{table_of}
use Rattle.reshard_planner.proofs.Exchanging.{held_small, moves, no_weight, off_is, quotas_are, quotas_small, stays, weighs, weights_light, whole_light}
use Rattle.reshard_planner.proofs.rebalancing.quota_exchange.Goals as goal

above : (w v : ℕ) → w ≡ v → (w ≡ 0 → ⊥) → 0 < v
above w v e h = elim (cases_eq w 0) [ inl u ↦ absurd (h u) | inr u ↦ (omega arith) ]

pub sum_over-whole-requires : goal.sum_over-whole-requires
sum_over-whole-requires c = record {
  small = weights_light c.args.owners.now c.args.weights.now c.args.threshold c.args.use_empty c.node_weights-node_weights.result
      c.nodes-nodes.result c.nodes-nodes.ensures.value c.requires.one_each c.requires.light
      (c.node_weights-node_weights.ensures c.args.owners.now.owners c.held_by_node-held.ensures);
}

pub returns-then-whole-eq0 : goal.returns-then-whole-eq0
returns-then-whole-eq0 c = no_weight c.args.owners.now c.args.weights.now c.args.threshold c.args.use_empty c.sum_over-whole.result
    (weighs c.args.owners.now c.args.weights.now c.args.threshold c.args.use_empty c.node_weights-node_weights.result c.nodes-nodes.result
    c.sum_over-whole.result c.nodes-nodes.ensures.value c.requires.one_each
    (c.node_weights-node_weights.ensures c.args.owners.now.owners c.held_by_node-held.ensures) c.sum_over-whole.ensures) c.if-whole-eq0.true

pub shares-quotas-requires-clause-half : goal.shares-quotas-requires-clause-half
shares-quotas-requires-clause-half c = let l : c.sum_over-whole.result ≤ 255000 = (let e = (weighs c.args.owners.now c.args.weights.now c.args.threshold c.args.use_empty c.node_weights-node_weights.result c.nodes-nodes.result
    c.sum_over-whole.result c.nodes-nodes.ensures.value c.requires.one_each
    (c.node_weights-node_weights.ensures c.args.owners.now.owners c.held_by_node-held.ensures) c.sum_over-whole.ensures) in
    let m = whole_light c.args.owners.now c.args.weights.now c.args.threshold c.args.use_empty c.requires.one_each (omega (arith, c.nodes-nodes.ensures.value, c.nodes-nodes.ensures.most)) c.requires.light in omega arith) in omega arith

pub shares-quotas-requires-clause-most : goal.shares-quotas-requires-clause-most
shares-quotas-requires-clause-most c = (let e = (weighs c.args.owners.now c.args.weights.now c.args.threshold c.args.use_empty c.node_weights-node_weights.result c.nodes-nodes.result
    c.sum_over-whole.result c.nodes-nodes.ensures.value c.requires.one_each
    (c.node_weights-node_weights.ensures c.args.owners.now.owners c.held_by_node-held.ensures) c.sum_over-whole.ensures) in
    let m = whole_light c.args.owners.now c.args.weights.now c.args.threshold c.args.use_empty c.requires.one_each (omega (arith, c.nodes-nodes.ensures.value, c.nodes-nodes.ensures.most)) c.requires.light in omega arith)

pub is_unbalanced-requires-clause-held : goal.is_unbalanced-requires-clause-held
is_unbalanced-requires-clause-held c = held_small c.args.owners.now c.args.weights.now c.args.threshold c.args.use_empty c.held_by_node-held.result c.nodes-nodes.result
    c.nodes-nodes.ensures.most c.nodes-nodes.ensures.width c.held_by_node-held.ensures

pub is_unbalanced-requires-clause-quotas : goal.is_unbalanced-requires-clause-quotas
is_unbalanced-requires-clause-quotas c = quotas_small c.args.owners.now c.args.weights.now c.args.threshold c.args.use_empty c.shares-quotas.result c.nodes-nodes.result
    c.nodes-nodes.ensures.value (table_of c.args.owners.now c.nodes-nodes.result c.nodes-nodes.ensures.value
    c.nodes-nodes.ensures.width c.nodes-nodes.ensures.some c.nodes-nodes.ensures.most c.nodes-nodes.ensures.named) (above c.sum_over-whole.result _ (weighs c.args.owners.now c.args.weights.now c.args.threshold c.args.use_empty c.node_weights-node_weights.result c.nodes-nodes.result
    c.sum_over-whole.result c.nodes-nodes.ensures.value c.requires.one_each
    (c.node_weights-node_weights.ensures c.args.owners.now.owners c.held_by_node-held.ensures) c.sum_over-whole.ensures) c.if-whole-eq0.false) (quotas_are c.args.owners.now c.args.weights.now c.args.threshold c.args.use_empty c.node_weights-node_weights.result c.shares-quotas.result
    c.nodes-nodes.result c.sum_over-whole.result c.nodes-nodes.ensures.value c.requires.one_each
    (c.node_weights-node_weights.ensures c.args.owners.now.owners c.held_by_node-held.ensures) (weighs c.args.owners.now c.args.weights.now c.args.threshold c.args.use_empty c.node_weights-node_weights.result c.nodes-nodes.result
    c.sum_over-whole.result c.nodes-nodes.ensures.value c.requires.one_each
    (c.node_weights-node_weights.ensures c.args.owners.now.owners c.held_by_node-held.ensures) c.sum_over-whole.ensures)
    c.shares-quotas.ensures)

pub returns-then-not-is_unbalanced : goal.returns-then-not-is_unbalanced
returns-then-not-is_unbalanced c = stays c.args.owners.now c.args.weights.now c.args.threshold c.args.use_empty c.nothing.result _ c.nothing.ensures.none (table_of c.args.owners.now c.nodes-nodes.result c.nodes-nodes.ensures.value
    c.nodes-nodes.ensures.width c.nodes-nodes.ensures.some c.nodes-nodes.ensures.most c.nodes-nodes.ensures.named) (above c.sum_over-whole.result _ (weighs c.args.owners.now c.args.weights.now c.args.threshold c.args.use_empty c.node_weights-node_weights.result c.nodes-nodes.result
    c.sum_over-whole.result c.nodes-nodes.ensures.value c.requires.one_each
    (c.node_weights-node_weights.ensures c.args.owners.now.owners c.held_by_node-held.ensures) c.sum_over-whole.ensures) c.if-whole-eq0.false)
    (sym (off_is c.args.owners.now c.args.weights.now c.args.threshold c.args.use_empty c.held_by_node-held.result c.shares-quotas.result c.nodes-nodes.result
    c.nodes-nodes.ensures.value c.nodes-nodes.ensures.most c.held_by_node-held.ensures (quotas_are c.args.owners.now c.args.weights.now c.args.threshold c.args.use_empty c.node_weights-node_weights.result c.shares-quotas.result
    c.nodes-nodes.result c.sum_over-whole.result c.nodes-nodes.ensures.value c.requires.one_each
    (c.node_weights-node_weights.ensures c.args.owners.now.owners c.held_by_node-held.ensures) (weighs c.args.owners.now c.args.weights.now c.args.threshold c.args.use_empty c.node_weights-node_weights.result c.nodes-nodes.result
    c.sum_over-whole.result c.nodes-nodes.ensures.value c.requires.one_each
    (c.node_weights-node_weights.ensures c.args.owners.now.owners c.held_by_node-held.ensures) c.sum_over-whole.ensures)
    c.shares-quotas.ensures)) ∙ sym c.if-not-is_unbalanced.ensures)

pub returns : goal.returns
returns c = moves c.args.owners.now c.args.weights.now c.args.threshold c.args.use_empty c.held_by_node-held.result c.shares-quotas.result c.excess.result c.excess-2.result
    c.nodes-nodes.result c.nodes-nodes.ensures.value (table_of c.args.owners.now c.nodes-nodes.result c.nodes-nodes.ensures.value
    c.nodes-nodes.ensures.width c.nodes-nodes.ensures.some c.nodes-nodes.ensures.most c.nodes-nodes.ensures.named) (above c.sum_over-whole.result _ (weighs c.args.owners.now c.args.weights.now c.args.threshold c.args.use_empty c.node_weights-node_weights.result c.nodes-nodes.result
    c.sum_over-whole.result c.nodes-nodes.ensures.value c.requires.one_each
    (c.node_weights-node_weights.ensures c.args.owners.now.owners c.held_by_node-held.ensures) c.sum_over-whole.ensures) c.if-whole-eq0.false) c.held_by_node-held.ensures (quotas_are c.args.owners.now c.args.weights.now c.args.threshold c.args.use_empty c.node_weights-node_weights.result c.shares-quotas.result
    c.nodes-nodes.result c.sum_over-whole.result c.nodes-nodes.ensures.value c.requires.one_each
    (c.node_weights-node_weights.ensures c.args.owners.now.owners c.held_by_node-held.ensures) (weighs c.args.owners.now c.args.weights.now c.args.threshold c.args.use_empty c.node_weights-node_weights.result c.nodes-nodes.result
    c.sum_over-whole.result c.nodes-nodes.ensures.value c.requires.one_each
    (c.node_weights-node_weights.ensures c.args.owners.now.owners c.held_by_node-held.ensures) c.sum_over-whole.ensures)
    c.shares-quotas.ensures) c.excess.ensures c.excess-2.ensures
    (sym (off_is c.args.owners.now c.args.weights.now c.args.threshold c.args.use_empty c.held_by_node-held.result c.shares-quotas.result c.nodes-nodes.result
    c.nodes-nodes.ensures.value c.nodes-nodes.ensures.most c.held_by_node-held.ensures (quotas_are c.args.owners.now c.args.weights.now c.args.threshold c.args.use_empty c.node_weights-node_weights.result c.shares-quotas.result
    c.nodes-nodes.result c.sum_over-whole.result c.nodes-nodes.ensures.value c.requires.one_each
    (c.node_weights-node_weights.ensures c.args.owners.now.owners c.held_by_node-held.ensures) (weighs c.args.owners.now c.args.weights.now c.args.threshold c.args.use_empty c.node_weights-node_weights.result c.nodes-nodes.result
    c.sum_over-whole.result c.nodes-nodes.ensures.value c.requires.one_each
    (c.node_weights-node_weights.ensures c.args.owners.now.owners c.held_by_node-held.ensures) c.sum_over-whole.ensures)
    c.shares-quotas.ensures)) ∙ sym c.if-not-is_unbalanced.ensures)
