-- A client's command where the verdict is to serve, and where it is not.
use Rattle.std.proofs.Common.{rules, ◌≡◌, Result, Ok, Err, OnOk, ℕ, ◌<◌, Bool, true, false, not, cond, List, [], ◌∷◌, length, get_or, arith, refl, sym, ap, ◌∙◌, inl, inr}
use Rattle.std.specs.Prelude.{◌==◌}
use Rattle.std.specs.List.{list_any}
use Rattle.std.proofs.lemmas.Bool.{true≢false, cases_Bool, or_parts, eqb-true}
use Rattle.std.proofs.lemmas.List.Elements.{All-nil, All-cons}
use Rattle.key_slots.specs.HashSlot.{slot_of}
use Rattle.store_commands.specs.Store.{Key}
use Rattle.resp2_wire.specs.declared.reply.Reply.{Reply}
use Rattle.store_commands.specs.Apply.{answer, apply}
use Rattle.client_commands.specs.Commands.{keys}
use Rattle.client_commands.specs.declared.command.Command.{Command}
use Rattle.slot_marks.specs.Verdicts.{first_slot, is_cross}
use Rattle.slot_marks.specs.declared.verdict.Verdict.{Verdict}
use Rattle.slot_marks.specs.declared.verdict.Verdict.TheVariants.{Serve, Moved, Ask, TryAgain, CrossSlot}
use Rattle.slot_keyspace.specs.OneSlot.{AreInSlot}
use Rattle.cluster_node.specs.Nodes.{Node, node_verdict, is_serve, client_reply, client_node}
use Rattle.cluster_node.specs.Redirections.{redirection}

unserved : (v : Verdict) → (v ≡ Serve → ⊥) → is_serve v ≡ false
unserved Serve h = absurd (h refl)
unserved (Moved n) h = refl
unserved (Ask n) h = refl
unserved TryAgain h = refl
unserved CrossSlot h = refl

module _ (port me : ℕ) (x : Node) (asking : Bool) (c : Command) (v : Verdict) (is : v ≡ node_verdict me x asking (keys c)) where
  reply_by : Verdict → Reply
  reply_by w = cond (is_serve w) (answer x.held c) (redirection port (first_slot (keys c)) w)

  by_verdict : client_reply port me x asking c ≡ reply_by v
  unfolding client_reply reply_by
  by_verdict = ap reply_by (sym is)

  node_by : Bool → Node
  node_by b = cond b (record x { held = apply x.held c }) x

  node_by_verdict : client_node me x asking c ≡ node_by (is_serve v)
  unfolding client_node node_by
  node_by_verdict = ap (λ w. node_by (is_serve w)) (sym is)

  pub reply-served : v ≡ Serve → client_reply port me x asking c ≡ answer x.held c
  unfolding reply_by
  reply-served e = by_verdict ∙ ap reply_by e

  pub node-served : v ≡ Serve → client_node me x asking c ≡ record x { held = apply x.held c }
  unfolding node_by
  node-served e = node_by_verdict ∙ ap (λ w. node_by (is_serve w)) e

  pub reply-told : (v ≡ Serve → ⊥) → client_reply port me x asking c ≡ redirection port (first_slot (keys c)) v
  unfolding reply_by
  reply-told h = by_verdict ∙ ap (λ b. cond b (answer x.held c) (redirection port (first_slot (keys c)) v)) (unserved v h)

  pub node-told : (v ≡ Serve → ⊥) → client_node me x asking c ≡ x
  unfolding node_by
  node-told h = node_by_verdict ∙ ap node_by (unserved v h)

pub first_slot-head : (ks : List Key) (k : Key) → 0 < length ks → k ≡ get_or ks 0 k → slot_of k ≡ first_slot ks
first_slot-head [] k h is = absurd (omega arith)
first_slot-head (q ∷ ks) k h is = ap slot_of is

pub on_ok : {A E : Type 0} (r : Result A E) (P : Type 0) → P → OnOk r P
on_ok (Ok x) P p = p
on_ok (Err e) P p = search rules

-- ---- what is served has one slot

others_none : (s : ℕ) (ks : List Key) → list_any (λ k. not (slot_of k == s)) ks ≡ false → AreInSlot s ks
others_none s [] e = All-nil (λ k. slot_of k ≡ s)
others_none s (k ∷ ks) e =
    let parts = or_parts (not (slot_of k == s)) (list_any (λ q. not (slot_of q == s)) ks) e in
    All-cons (λ q. slot_of q ≡ s) k ks (eqb-true (slot_of k) s (unnot (slot_of k == s) parts.0)) (others_none s ks parts.1)
  where
    unnot : (b : Bool) → not b ≡ false → b ≡ true
    unnot true f = refl
    unnot false f = absurd (true≢false f)

crossed : (me : ℕ) (x : Node) (asking : Bool) (ks : List Key) → is_cross ks ≡ true → node_verdict me x asking ks ≡ CrossSlot
unfolding node_verdict
crossed me x asking ks cross = rw cross refl

pub one_slot-served : (me : ℕ) (x : Node) (asking : Bool) (ks : List Key) (v : Verdict) → v ≡ node_verdict me x asking ks → v ≡ Serve → AreInSlot (first_slot ks) ks
one_slot-served me x asking ks v is serves = elim (cases_Bool (is_cross ks)) [
  | inl cross ↦ absurd (different (sym serves ∙ is ∙ crossed me x asking ks cross))
  | inr none ↦ others_none (first_slot ks) ks none
]
  where
    different : Serve ≡ CrossSlot → ⊥
    different e = true≢false (ap is_serve e)
