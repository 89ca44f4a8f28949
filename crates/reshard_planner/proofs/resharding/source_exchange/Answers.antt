use Rattle.std.proofs.Common.{◌∙◌, sym, arith, set, subst}
use Rattle.key_slots.proofs.OwnerTables.{table_of}
use Rattle.reshard_planner.specs.Shares.{source_gives, target_takes}
use Rattle.reshard_planner.specs.Starts.{Lists}
use Rattle.reshard_planner.proofs.Exchanging.{answered, nothing_given, one_takes, shares_given, some_sources, target_among, too_many, weights_small, whole_is, whole_most}
use Rattle.reshard_planner.proofs.resharding.source_exchange.Goals as goal
use Rattle.reshard_planner.proofs.resharding.source_exchange.Goals.{then-total-gt0, else-total-gt0}

pub sum_over-whole-requires : goal.sum_over-whole-requires
sum_over-whole-requires c = record {
  small = weights_small c.args.owners.now c.args.sources.now c.args.target c.args.count
      c.source_weights-weights.result c.nodes-nodes.result c.nodes-nodes.ensures.width c.nodes-nodes.ensures.most
      (c.source_weights-weights.ensures c.args.owners.now.owners c.held_by_node.ensures);
}

pub returns-then-whole-total : goal.returns-then-whole-total
returns-then-whole-total c = too_many c.args.owners.now c.args.sources.now c.args.target c.args.count c.sum_over-whole.result
    (whole_is c.args.owners.now c.args.sources.now c.args.target c.args.count c.source_weights-weights.result c.nodes-nodes.result
    c.sum_over-whole.result c.nodes-nodes.ensures.value c.nodes-nodes.ensures.most
    (c.source_weights-weights.ensures c.args.owners.now.owners c.held_by_node.ensures) c.sum_over-whole.ensures)
    (some_sources c.args.sources.now c.if-is_empty.ensures) (omega (arith, c.if-whole-total.true, c.from-total.ensures))

pub returns-then-is_source : goal.returns-then-is_source
returns-then-is_source c = target_among c.args.owners.now c.args.sources.now c.args.target c.args.count c.sum_over-whole.result
    (whole_is c.args.owners.now c.args.sources.now c.args.target c.args.count c.source_weights-weights.result c.nodes-nodes.result
    c.sum_over-whole.result c.nodes-nodes.ensures.value c.nodes-nodes.ensures.most
    (c.source_weights-weights.ensures c.args.owners.now.owners c.held_by_node.ensures) c.sum_over-whole.ensures)
    (some_sources c.args.sources.now c.if-is_empty.ensures) (omega (arith, c.if-whole-total.false, c.from-total.ensures))
    (sym c.if-is_source.ensures)

pub shares-gives-requires-clause-most : goal.shares-gives-requires-clause-most
shares-gives-requires-clause-most c =
    let e = whole_is c.args.owners.now c.args.sources.now c.args.target c.args.count c.source_weights-weights.result c.nodes-nodes.result
    c.sum_over-whole.result c.nodes-nodes.ensures.value c.nodes-nodes.ensures.most
    (c.source_weights-weights.ensures c.args.owners.now.owners c.held_by_node.ensures) c.sum_over-whole.ensures in
    let m = whole_most c.args.owners.now c.args.sources.now c.args.target c.args.count (table_of c.args.owners.now c.nodes-nodes.result
    c.nodes-nodes.ensures.value c.nodes-nodes.ensures.width c.nodes-nodes.ensures.some c.nodes-nodes.ensures.most c.nodes-nodes.ensures.named) in
    omega arith

pub returns : goal.returns
returns c = answered c.args.owners.now c.args.sources.now c.args.target c.args.count c.if-total-gt0.gives _ c.sum_over-whole.result
    (table_of c.args.owners.now c.nodes-nodes.result c.nodes-nodes.ensures.value c.nodes-nodes.ensures.width
    c.nodes-nodes.ensures.some c.nodes-nodes.ensures.most c.nodes-nodes.ensures.named)
    c.requires.target_exists c.requires.few
    (whole_is c.args.owners.now c.args.sources.now c.args.target c.args.count c.source_weights-weights.result c.nodes-nodes.result
    c.sum_over-whole.result c.nodes-nodes.ensures.value c.nodes-nodes.ensures.most
    (c.source_weights-weights.ensures c.args.owners.now.owners c.held_by_node.ensures) c.sum_over-whole.ensures)
    (some_sources c.args.sources.now c.if-is_empty.ensures) (omega (arith, c.if-whole-total.false, c.from-total.ensures))
    (sym c.if-is_source.ensures)
    (elim c.if-total-gt0.branch [
      | then-total-gt0 w ↦ subst (Lists (source_gives c.args.owners.now.owners c.args.sources.now c.args.owners.now.nodes c.args.count) c.args.owners.now.nodes)
          (sym w.gives-is) (shares_given c.args.owners.now c.args.sources.now c.args.target c.args.count
          c.source_weights-weights.result _ c.nodes-nodes.result c.from-total.result c.nodes-nodes.ensures.value c.nodes-nodes.ensures.most
          c.from-total.ensures (c.source_weights-weights.ensures c.args.owners.now.owners c.held_by_node.ensures) w.shares-gives.ensures)
      | else-total-gt0 w ↦ subst (Lists (source_gives c.args.owners.now.owners c.args.sources.now c.args.owners.now.nodes c.args.count) c.args.owners.now.nodes)
          (sym w.gives-is) (nothing_given c.args.owners.now c.args.sources.now c.args.target c.args.count
          (let l = w.if-total-gt0 in omega (arith, c.from-total.ensures)) c.nothing-gives.result c.nothing-gives.ensures.none)
    ])
    (subst (λ v. Lists (target_takes c.args.target c.args.count) 255 (set c.nothing-takes.result c.from.result v)) (sym c.from-total.ensures)
    (one_takes c.args.owners.now c.args.sources.now c.args.target c.args.count c.nothing-takes.result c.from.result c.nothing-takes.ensures.none
    (sym (c.from.ensures ∙ c.get.ensures.value)) (omega (arith, c.from.ensures, c.get.ensures.within, c.nothing-takes.ensures.width))))
