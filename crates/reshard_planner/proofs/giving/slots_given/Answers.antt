use Rattle.std.proofs.Common.{◌≡◌, ℕ, List, ◌≤◌, ◌∙◌, ◌++◌, map, ap, arith, get_or}
use Rattle.reshard_planner.specs.Transfers.{slots_given}
use Rattle.reshard_planner.proofs.Steps.{given_step}
use Rattle.reshard_planner.proofs.giving.slots_given.Goals as goal

pub loop-node-preserved : goal.loop-node-preserved
loop-node-preserved c = λ owners h. given_step owners c.args.gives.now c.args.lists.now c.args.nodes c.loop-node.node c.from.result
    c.from-in-loop-node.result c.index-lists-from.result c.lowest-slots.result.now c.loop-node.slots_given.items _ h
    c.loop-node-test.true c.from.ensures c.index-lists-from.is c.from-in-loop-node.ensures
    c.lowest-slots.ensures
    (c.in_ok-give.ensures ∙ ap (λ m. c.loop-node.slots_given.items ++ map (λ s. (s, m)) c.lowest-slots.result.now) c.of.ensures) (c.loop-node.invariant owners h)

-- the last node is reached
all : (gives owners : List ℕ) (k n : ℕ) (items : List (ℕ × ℕ)) → k ≤ n → n ≤ k → items ≡ slots_given owners (λ i. get_or gives i 0) k
    → items ≡ slots_given owners (λ i. get_or gives i 0) n
all gives owners k n items a b e = e ∙ ap (slots_given owners (λ i. get_or gives i 0)) (same k n a b)
  where
    same : (k n : ℕ) → k ≤ n → n ≤ k → k ≡ n
    same k n a b = omega arith

pub returns : goal.returns
returns c = λ owners h. all c.args.gives.now owners c.loop-node.node c.args.nodes _ c.loop-node.auto.node-end
    c.loop-node-test.false (c.loop-node.invariant owners h)
