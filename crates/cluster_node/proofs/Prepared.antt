-- A client's command that is prepared: where the verdict is to serve, and where it is not.
use Rattle.std.proofs.Common.{◌≡◌, ℕ, Result, Ok, Err, IfOk, OnErr, Bool, true, sym, ap, subst, ◌∙◌, inl, inr}
use Rattle.store_commands.specs.Apply.{answer, apply}
use Rattle.store_commands.specs.Memory.{IsMade, MayTakeMemory, Writes}
use Rattle.store_commands.specs.NoEmptyCollections.{HasNoEmptyCollection}
use Rattle.client_commands.specs.Commands.{keys}
use Rattle.client_commands.specs.declared.command.Command.{Command}
use Rattle.slot_marks.specs.Verdicts.{first_slot}
use Rattle.slot_marks.specs.declared.verdict.Verdict.{Verdict}
use Rattle.slot_marks.specs.declared.verdict.Verdict.TheVariants.{Serve, Moved, Ask, TryAgain, CrossSlot}
use Rattle.cluster_node.specs.Nodes.{Node, node_verdict, is_marked}
use Rattle.cluster_node.specs.NodeView.{NodeView}
use Rattle.cluster_node.specs.Redirections.{redirection}
use Rattle.cluster_node.specs.Memory.{HasWorkIn, ClientTakesMemory}
use Rattle.cluster_node.specs.Changing.{IsPrepared, Makes, reply_in}
use Rattle.cluster_node.specs.declared.changing.NodeChange.{NodeChange}
use Rattle.cluster_node.proofs.Served.{reply-served, node-served, reply-told, node-told}

pub prepared-served : {E : Type 0} (x : NodeView) (asking : Bool) (c : Command) (v : Verdict) (r : Result NodeChange E) → v ≡ node_verdict x.me x.node asking (keys c) → v ≡ Serve
    → IfOk r (λ d. reply_in d ≡ answer x.node.held c) → IfOk r (λ d. Makes d x.node (record x.node { held = apply x.node.held c })) → HasNoEmptyCollection (apply x.node.held c) → IfOk r (IsPrepared x asking c)
prepared-served x asking c v (Ok d) is serves reply node whole = record {
  reply_is = reply ∙ sym (reply-served x.base_port x.me x.node asking c v is serves);
  makes = subst (Makes d x.node) (sym (node-served x.base_port x.me x.node asking c v is serves)) node;
  whole = subst (λ (z : Node). HasNoEmptyCollection z.held) (sym (node-served x.base_port x.me x.node asking c v is serves)) whole;
}
prepared-served x asking c v (Err e) is serves reply node whole = tt

pub prepared-told : {E : Type 0} (x : NodeView) (asking : Bool) (c : Command) (v : Verdict) (r : Result NodeChange E) → v ≡ node_verdict x.me x.node asking (keys c) → (v ≡ Serve → ⊥)
    → IfOk r (λ d. reply_in d ≡ redirection x.base_port (first_slot (keys c)) v) → IfOk r (λ d. Makes d x.node x.node) → HasNoEmptyCollection x.node.held → IfOk r (IsPrepared x asking c)
prepared-told x asking c v (Ok d) is other reply node whole = record {
  reply_is = reply ∙ sym (reply-told x.base_port x.me x.node asking c v is other);
  makes = subst (Makes d x.node) (sym (node-told x.base_port x.me x.node asking c v is other)) node;
  whole = subst (λ (z : Node). HasNoEmptyCollection z.held) (sym (node-told x.base_port x.me x.node asking c v is other)) whole;
}
prepared-told x asking c v (Err e) is other reply node whole = tt

-- ---- where memory runs out

redirection_is_made : (port s : ℕ) (v : Verdict) → IsMade (redirection port s v)
unfolding redirection
redirection_is_made port s Serve = tt
redirection_is_made port s (Moved n) = tt
redirection_is_made port s (Ask n) = tt
redirection_is_made port s TryAgain = tt
redirection_is_made port s CrossSlot = tt

pub memory-marked : {A E : Type 0} (x : NodeView) (asking : Bool) (c : Command) (s : ℕ) (r : Result A E) → s ≡ first_slot (keys c)
    → is_marked x.node s ≡ true → OnErr r (ClientTakesMemory x.base_port x.me x.node asking c)
memory-marked x asking c s (Ok a) is marked = tt
memory-marked x asking c s (Err e) is marked = inr (inl (ap (is_marked x.node) (sym is) ∙ marked))

pub memory-served : {A E : Type 0} (x : NodeView) (asking : Bool) (c : Command) (v : Verdict) (r : Result A E) → v ≡ node_verdict x.me x.node asking (keys c) → v ≡ Serve
    → OnErr r (MayTakeMemory x.node.held c) → OnErr r (ClientTakesMemory x.base_port x.me x.node asking c)
memory-served x asking c v (Ok a) is serves may = tt
memory-served x asking c v (Err e) is serves (inl writes) = inl writes
memory-served x asking c v (Err e) is serves (inr made) = inr (inr (subst IsMade (sym (reply-served x.base_port x.me x.node asking c v is serves)) made))

pub memory-told : {A E : Type 0} (x : NodeView) (asking : Bool) (c : Command) (v : Verdict) (r : Result A E) → v ≡ node_verdict x.me x.node asking (keys c) → (v ≡ Serve → ⊥)
    → OnErr r (ClientTakesMemory x.base_port x.me x.node asking c)
memory-told x asking c v (Ok a) is other = tt
memory-told x asking c v (Err e) is other =
    inr (inr (subst IsMade (sym (reply-told x.base_port x.me x.node asking c v is other)) (redirection_is_made x.base_port (first_slot (keys c)) v)))

pub work-told : {E : Type 0} (c : Command) (r : Result NodeChange E) → IfOk r (λ d. HasWorkIn d → ⊥) → IfOk r (λ d. HasWorkIn d → Writes c)
work-told c (Ok d) none = λ w. absurd (none w)
work-told c (Err e) none = tt

pub memory-committed : {A E : Type 0} (x : NodeView) (asking : Bool) (c : Command) (d : NodeChange) (r : Result A E) → (HasWorkIn d → Writes c) → OnErr r (HasWorkIn d)
    → OnErr r (ClientTakesMemory x.base_port x.me x.node asking c)
memory-committed x asking c d (Ok a) writes work = tt
memory-committed x asking c d (Err e) writes work = inl (writes work)
