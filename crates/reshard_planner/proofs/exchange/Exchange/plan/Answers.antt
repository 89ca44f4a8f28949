use Rattle.std.proofs.Common.{◌≤◌, ◌∙◌, length, slice_index, subst, sym}
use Rattle.std.specs.List.{AllByRecursion}
use Rattle.reshard_planner.specs.Transfers.{transfers}
use Rattle.reshard_planner.specs.Writing.{IsBetween}
use Rattle.reshard_planner.proofs.Steps.{few_transfers, transfers_named}
use Rattle.reshard_planner.proofs.exchange.Exchange.plan.Goals as goal

pub plan_of-requires-clause-few : goal.plan_of-requires-clause-few
plan_of-requires-clause-few c = subst (λ l. length l ≤ 16384) (sym (c.as_slice.ensures.value ∙ c.in_ok-transfers.ensures))
    (few_transfers c.args.owners.now.owners (λ node. slice_index c.args.self.now.gives node)
    (λ node. slice_index c.args.self.now.takes node) c.args.owners.now.nodes c.requires.few)

pub plan_of-requires-clause-within : goal.plan_of-requires-clause-within
plan_of-requires-clause-within c = subst (AllByRecursion (IsBetween c.nodes-nodes.result))
    (sym (c.as_slice.ensures.value ∙ c.in_ok-transfers.ensures))
    (subst (λ n. AllByRecursion (IsBetween n) (transfers c.args.owners.now.owners (λ node. slice_index c.args.self.now.gives node)
    (λ node. slice_index c.args.self.now.takes node) c.args.owners.now.nodes)) (sym c.nodes-nodes.ensures.value)
    (transfers_named c.args.owners.now.owners (λ node. slice_index c.args.self.now.gives node)
    (λ node. slice_index c.args.self.now.takes node) c.args.owners.now.nodes))
