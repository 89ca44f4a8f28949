use Rattle.std.proofs.Common.{◌≡◌, ℕ, ◌+◌, ◌<◌, ◌≤◌, ◌∙◌, sym, ap, arith, slice_index, refl, length-set}
use Rattle.reshard_planner.specs.Sums.{sum_below}
use Rattle.reshard_planner.proofs.Steps.{share_here}
use Rattle.reshard_planner.proofs.Sums.{sum_more, sum_upto, sum_zero}
use Rattle.reshard_planner.proofs.Walking.{lists_more}
use Rattle.reshard_planner.proofs.shares.Scale.shares.Goals as goal

-- the weight so far and the next one are within the whole
reached : (weight : ℕ → ℕ) (before node n whole end : ℕ) → before ≡ sum_below weight node → node < end → end ≡ n
    → whole ≡ sum_below weight n → whole ≤ 255000 → before + weight node ≤ 255000
reached weight before node n whole end e l f g most = let u = sum_upto weight node n (omega arith) in omega arith

pub loop-node-init : goal.loop-node-init
loop-node-init c = (sym (sum_zero _), (λ k l. absurd (omega arith)), c.nothing-shares.ensures.width)

pub overflow_add-after : goal.overflow_add-after
overflow_add-after c = let r = reached (λ node. slice_index c.args.weights.now node) c.loop-node.before c.loop-node.node c.args.nodes c.args.self.whole c.from-node-end.result c.loop-node.invariant.0 c.loop-node-test.true c.from-node-end.ensures c.requires.whole c.requires.most in omega arith

pub upto-requires-clause-weight : goal.upto-requires-clause-weight
upto-requires-clause-weight c = reached (λ node. slice_index c.args.weights.now node) c.loop-node.before c.loop-node.node c.args.nodes c.args.self.whole c.from-node-end.result c.loop-node.invariant.0 c.loop-node-test.true c.from-node-end.ensures c.requires.whole c.requires.most

pub upto-requires-in-loop-node-clause-weight : goal.upto-requires-in-loop-node-clause-weight
upto-requires-in-loop-node-clause-weight c = let r = reached (λ node. slice_index c.args.weights.now node) c.loop-node.before c.loop-node.node c.args.nodes c.args.self.whole c.from-node-end.result c.loop-node.invariant.0 c.loop-node-test.true c.from-node-end.ensures c.requires.whole c.requires.most in omega arith

pub loop-node-preserved : goal.loop-node-preserved
loop-node-preserved c = (
  ap (λ x. x + slice_index c.args.weights.now c.loop-node.node) c.loop-node.invariant.0 ∙ sym (sum_more _ c.loop-node.node),
  lists_more _ _ _ _ (omega (arith, c.loop-node.invariant.2)) c.loop-node.invariant.1
      (share_here c.args.self.total c.args.self.half c.args.self.whole c.loop-node.before _ _ _ c.loop-node.node c.args.nodes
      (λ node. slice_index c.args.weights.now node) c.loop-node.invariant.0 refl c.requires.whole c.upto.ensures
      c.upto-in-loop-node.ensures),
  length-set _ _ _ ∙ c.loop-node.invariant.2,
)
