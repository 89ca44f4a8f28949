use Rattle.std.proofs.Common.{◌≡◌, ◌<◌, ◌-◌, arith, drop, length, subst, sym, take}
use Rattle.std.specs.List.{All}
use Rattle.std.proofs.lemmas.List.Elements.{All-tail}
use Rattle.key_slots.proofs.OwnerTables.{table_of}
use Rattle.reshard_planner.specs.Draining.{emptied, filled}
use Rattle.reshard_planner.specs.Shares.{sources_hold}
use Rattle.reshard_planner.specs.Starts.{Lists}
use Rattle.reshard_planner.proofs.DrainExchanges.{drained_by, emptied_small, first_and_rest}
use Rattle.reshard_planner.proofs.Exchanging.{some_sources, weights_small, whole_is, whole_most}
use Rattle.reshard_planner.proofs.draining.drain_exchange.Goals as goal

pub sum_over-total-requires : goal.sum_over-total-requires
sum_over-total-requires c = record {
  small = weights_small c.args.owners.now c.args.sources.now 0 0 c.source_weights-weights.result
      c.nodes-nodes.result c.nodes-nodes.ensures.width c.nodes-nodes.ensures.most
      (c.source_weights-weights.ensures c.args.owners.now.owners c.held_by_node-held.ensures);
}

pub filled-quotas-requires-clause-few : goal.filled-quotas-requires-clause-few
filled-quotas-requires-clause-few c =
    let o = c.args.owners.now in
    let e = whole_is o c.args.sources.now 0 0 c.source_weights-weights.result c.nodes-nodes.result
    c.sum_over-total.result c.nodes-nodes.ensures.value c.nodes-nodes.ensures.most
    (c.source_weights-weights.ensures o.owners c.held_by_node-held.ensures) c.sum_over-total.ensures in
    let m = whole_most o c.args.sources.now 0 0 (table_of o c.nodes-nodes.result c.nodes-nodes.ensures.value
    c.nodes-nodes.ensures.width c.nodes-nodes.ensures.some c.nodes-nodes.ensures.most c.nodes-nodes.ensures.named) in
    omega arith

pub filled-quotas-requires-clause-small : goal.filled-quotas-requires-clause-small
filled-quotas-requires-clause-small c = emptied_small c.args.owners.now.owners c.args.sources.now c.emptied.result
    c.nodes-nodes.ensures.width (c.emptied.ensures.holds c.args.owners.now.owners c.held_by_node-held.ensures)

pub filled-quotas-requires-clause-others : goal.filled-quotas-requires-clause-others
filled-quotas-requires-clause-others c = λ k d l.
    let ts = take (length c.args.targets.now - 1) (drop 1 c.args.targets.now) in
    let are = first_and_rest c.args.targets.now c.target-item.result c.in-len1-up.len_at_least c.target-item.is in
    let all = All-tail (λ x. x < c.args.owners.now.nodes) c.target-item.result ts
    (subst (All (λ x. x < c.args.owners.now.nodes)) are c.requires.targets_exist) in
    let b = all k d l in omega (arith, c.nodes-nodes.ensures.value, c.nodes-nodes.ensures.most)

pub returns : goal.returns
returns c =
    let o = c.args.owners.now in
    let sources = c.args.sources.now in
    let targets = c.args.targets.now in
    let ts = take (length targets - 1) (drop 1 targets) in
    let e : c.sum_over-total.result ≡ sources_hold o.owners sources o.nodes =
    whole_is o sources 0 0 c.source_weights-weights.result c.nodes-nodes.result c.sum_over-total.result
    c.nodes-nodes.ensures.value c.nodes-nodes.ensures.most
    (c.source_weights-weights.ensures o.owners c.held_by_node-held.ensures) c.sum_over-total.ensures in
    drained_by o sources targets c.target-item.result ts
    (first_and_rest targets c.target-item.result c.in-len1-up.len_at_least c.target-item.is)
    (table_of o c.nodes-nodes.result c.nodes-nodes.ensures.value c.nodes-nodes.ensures.width
    c.nodes-nodes.ensures.some c.nodes-nodes.ensures.most c.nodes-nodes.ensures.named)
    (some_sources sources c.if-is_empty.ensures) (sym c.if-are_mixed.ensures) c.held_by_node-held.result
    c.filled-quotas.result c.excess.result c.excess-2.result c.nodes-nodes.result c.nodes-nodes.ensures.value
    c.held_by_node-held.ensures
    (subst (λ k. Lists (filled (emptied o.owners sources) c.target-item.result ts k) 255 c.filled-quotas.result) e
    (c.filled-quotas.ensures (emptied o.owners sources)
    (c.emptied.ensures.holds o.owners c.held_by_node-held.ensures)))
    c.excess.ensures c.excess-2.ensures
