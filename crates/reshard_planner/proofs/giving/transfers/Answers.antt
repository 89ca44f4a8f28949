use Rattle.std.proofs.Common.{◌∙◌, ap, sym, subst, slice_index, IfOk, Result, Ok, Err}
use Rattle.reshard_planner.specs.Starts.{AreSlotsOf}
use Rattle.reshard_planner.specs.Transfers.{slots_given, transfers_between, nodes_taking}
use Rattle.reshard_planner.proofs.giving.transfers.Goals as goal

if_ok : {A E : Type 0} (r : Result A E) (P Q : A → Type 0) → ((x : A) → P x → Q x) → IfOk r P → IfOk r Q
if_ok (Ok x) P Q f h = f x h
if_ok (Err e) P Q f h = tt

pub returns : goal.returns
returns c =
    let g = c.as_slice-2.ensures.value ∙ c.in_ok-slots_given.ensures c.args.owners.now.owners
    (subst (λ n. AreSlotsOf n c.args.owners.now.owners c.as_slice.result.now) (sym c.nodes-nodes.ensures.value)
    (subst (AreSlotsOf c.args.owners.now.nodes c.args.owners.now.owners) (sym c.as_slice.ensures.value) c.in_ok-lists.ensures))
    ∙ ap (slots_given c.args.owners.now.owners (λ node. slice_index c.args.gives.now node)) c.nodes-nodes.ensures.value in
    let t = c.as_slice-3.ensures.value ∙ c.in_ok-targets.ensures
    ∙ ap (nodes_taking (λ node. slice_index c.args.takes.now node)) c.nodes-nodes.ensures.value in
    if_ok c.transfers_between.result _ _ (λ v e. e ∙ (λ i. transfers_between (g i) (t i))) c.transfers_between.ensures
