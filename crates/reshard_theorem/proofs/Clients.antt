-- A client's command keeps what holds of every driven run, honest or not.
use Rattle.std.proofs.Common.{◌≡◌, ◌≢◌, ℕ, ◌<◌, Bool, true, false, List, length, Option, None, is_some, sym, refl, ap, ◌∙◌, subst, inl, inr}
use Rattle.std.proofs.lemmas.Bool.{cases_Bool, cases_eq, true≢false, cond-true, cond-false, ne_eqb, false_from_ne_true}
use Rattle.key_slots.specs.HashSlot.{slot_of}
use Rattle.resp2_wire.specs.declared.reply.Reply.{Reply}
use Rattle.store_commands.specs.Store.{Key, is_named}
use Rattle.store_commands.specs.Apply.{answer}
use Rattle.client_commands.specs.Commands.{keys}
use Rattle.client_commands.specs.declared.command.Command.{Command}
use Rattle.slot_marks.specs.Verdicts.{first_slot}
use Rattle.slot_marks.specs.declared.verdict.Verdict.{Verdict}
use Rattle.slot_marks.specs.declared.verdict.Verdict.TheVariants.{Serve, Moved, Ask, TryAgain, CrossSlot}
use Rattle.cluster_node.specs.Nodes.{is_serve, client_reply, client_node}
use Rattle.cluster_node.specs.Redirections.{redirection}
use Rattle.cluster_world.specs.Worlds.{World, node_at, change_node, verdict, migrating, importing, held}
use Rattle.cluster_world.specs.Steps.{after, Answers}
use Rattle.cluster_world.specs.declared.event.Event.TheVariants.{Client}
use Rattle.cluster_world.proofs.Setting.{change-same}
use Rattle.plan_language.specs.declared.plan_command.PlanCommand.{PlanCommand}
use Rattle.plan_semantics.specs.Plans.{part}
use Rattle.reshard_theorem.proofs.Split.{Contents}
use Rattle.reshard_theorem.proofs.Verdicts.{ServedBy, served_by}
use Rattle.reshard_theorem.proofs.Phases.{Phase, Closed, Importing, Migrating, Drained, TargetTold, SourceTold, goes_in, comes_in, Rest, Emptied, named_slot, marks_same, emptied_same, marked}
use Rattle.reshard_theorem.proofs.Base.{Base, MarksIn, Stays}
use Rattle.reshard_theorem.proofs.Served.{served_world, served_is, served_length, owner_kept, migrating_kept, importing_kept, width_kept, served_elsewhere, served_unnamed}

pub is_serve_Serve : (v : Verdict) → is_serve v ≡ true → v ≡ Serve
is_serve_Serve Serve e = refl
is_serve_Serve (Moved m) e = absurd (true≢false (sym e))
is_serve_Serve (Ask m) e = absurd (true≢false (sym e))
is_serve_Serve TryAgain e = absurd (true≢false (sym e))
is_serve_Serve CrossSlot e = absurd (true≢false (sym e))

-- a node that has a migrating mark and no importing one serves only what it has
pub has_all : (w : World) (x : ℕ) (asking : Bool) (ks : List Key) → ServedBy w x asking ks → importing w x (first_slot ks) ≡ None → migrating w x (first_slot ks) ≢ None
    → (q : Key) → is_named q ks ≡ true → is_some (held w x q) ≡ true
has_all w x asking ks by none mark q e = elim by.why [
  | inl u ↦ absurd (u.0 none)
  | inr u ↦ u.1 mark q e
]

-- in the phases with an emptied source that source has a migrating mark and no importing one
emptied_served : (s : ℕ) (phase : Phase) (has has' : Contents) (x : ℕ) (ks : List Key)
    → ((q : Key) → is_named q ks ≡ true → slot_of q ≡ s)
    → (comes_in phase x ≡ None → goes_in phase x ≢ None → (q : Key) → is_named q ks ≡ true → is_some (has x q) ≡ true)
    → (n goal : ℕ) (rest : List PlanCommand) → Rest n goal s phase rest
    → ((m : ℕ) (q : Key) → m ≢ x → has' m q ≡ has m q) → ((m : ℕ) (q : Key) → is_named q ks ≡ false → has' m q ≡ has m q)
    → Emptied s phase has → Emptied s phase has'
emptied_served s (Closed o) has has' x ks slot all n goal rest left elsewhere unnamed h = tt
emptied_served s (Importing o t) has has' x ks slot all n goal rest left elsewhere unnamed h = tt
emptied_served s (Migrating o t) has has' x ks slot all n goal rest left elsewhere unnamed h = tt
emptied_served s (Drained o t) has has' x ks slot all n goal rest left elsewhere unnamed h = λ k i. elim (cases_eq o x) [
  | inl u ↦ elim (cases_Bool (is_named k ks)) [
    | inl v ↦ absurd (true≢false (sym (all (cond-false _ _ _ (ne_eqb x t (λ y. left.ends.apart (u ∙ y)))) (marked x o t (sym u)) k v) ∙ ap is_some (ap (λ y. has y k) (sym u) ∙ h k i)))
    | inr v ↦ unnamed o k v ∙ h k i
  ]
  | inr u ↦ elsewhere o k u ∙ h k i
]
emptied_served s (TargetTold o t) has has' x ks slot all n goal rest left elsewhere unnamed h = λ k i. elim (cases_eq o x) [
  | inl u ↦ elim (cases_Bool (is_named k ks)) [
    | inl v ↦ absurd (true≢false (sym (all refl (marked x o t (sym u)) k v) ∙ ap is_some (ap (λ y. has y k) (sym u) ∙ h k i)))
    | inr v ↦ unnamed o k v ∙ h k i
  ]
  | inr u ↦ elsewhere o k u ∙ h k i
]
emptied_served s (SourceTold o t left) has has' x ks slot all n goal rest l elsewhere unnamed h = tt

-- a command that is served keeps owners, marks and emptied sources, honest or not
module _ (n : ℕ) (goal : ℕ → ℕ) (w : World) (plan : List PlanCommand) (listed : Option (List Key)) (x : ℕ) (asking : Bool) (c : Command) where
  pub served_base : (b : Base n goal w plan listed) → x < length w.nodes → ServedBy w x asking (keys c) → (new : Base n goal (served_world w x c) plan listed) × Stays n goal w (served_world w x c) plan listed b new
  served_base b inside by = (
    record {
      size = served_length w x c ∙ b.size;
      widths = λ m h. width_kept w x c inside m ∙ b.widths m h;
      marks = λ t. (new t).0;
      emptied = λ t. subst (λ p. Emptied t p (held (served_world w x c))) (sym (new t).1) (kept t);
      listing = b.listing;
    },
    λ t. (new t).1,
  )
    where
      new : (t : ℕ) → (m : MarksIn n goal (served_world w x c) plan t) × (m.phase ≡ (b.marks t).phase)
      new t = marks_same n (goal t) t _ _ _ _ _ _ (part plan t) (b.marks t) (λ m. owner_kept w x c inside m t) (λ m. migrating_kept w x c inside m t) (λ m. importing_kept w x c inside m t)

      kept : (t : ℕ) → Emptied t (b.marks t).phase (held (served_world w x c))
      kept t = elim (cases_eq (first_slot (keys c)) t) [
        | inl e ↦ emptied_served t (b.marks t).phase (held w) (held (served_world w x c)) x (keys c) (λ q i. named_slot (keys c) by.one_slot q i ∙ e)
            (λ u v. has_all w x asking (keys c) by (ap (importing w x) e ∙ (b.marks t).coming x ∙ u) (λ none. v (sym ((b.marks t).going x) ∙ ap (migrating w x) (sym e) ∙ none)))
            n (goal t) (part plan t) (b.marks t).left (served_elsewhere w x c inside) (served_unnamed w x c inside) (b.emptied t)
        | inr e ↦ emptied_same t (b.marks t).phase (held w) (held (served_world w x c)) (λ m k i. served_unnamed w x c inside m k (false_from_ne_true _ (λ u. e (sym (named_slot (keys c) by.one_slot k u) ∙ i)))) (b.emptied t)
      ]

module _ (w : World) (x : ℕ) (asking : Bool) (c : Command) where
  -- what the node becomes
  pub after_served : verdict w x asking (keys c) ≡ Serve → change_node w x (client_node x (node_at w x) asking c) ≡ served_world w x c
  unfolding client_node
  after_served e = ap (change_node w x) (cond-true _ _ _ (ap is_serve e)) ∙ sym (served_is w x c)

  pub after_told : x < length w.nodes → is_serve (verdict w x asking (keys c)) ≡ false → change_node w x (client_node x (node_at w x) asking c) ≡ w
  unfolding client_node
  after_told inside e = ap (change_node w x) (cond-false _ _ _ e) ∙ change-same w x inside

  pub reply_served : verdict w x asking (keys c) ≡ Serve → client_reply w.base_port x (node_at w x) asking c ≡ answer (node_at w x).held c
  unfolding client_reply
  reply_served e = cond-true _ _ _ (ap is_serve e)

  pub reply_told : is_serve (verdict w x asking (keys c)) ≡ false → client_reply w.base_port x (node_at w x) asking c ≡ redirection w.base_port (first_slot (keys c)) (verdict w x asking (keys c))
  unfolding client_reply
  reply_told e = cond-false _ _ _ e

module _ (n : ℕ) (goal : ℕ → ℕ) (w : World) (plan : List PlanCommand) (listed : Option (List Key)) (seat x : ℕ) (asking : Bool) (c : Command) (reply : Reply) where
  -- any client, honest or not
  pub client_base : (b : Base n goal w plan listed) → Answers w (Client seat x asking c reply)
      → (new : Base n goal (after w (Client seat x asking c reply)) plan listed) × Stays n goal w (after w (Client seat x asking c reply)) plan listed b new
  client_base b answers = elim (cases_Bool (is_serve (verdict w x asking (keys c)))) [
    | inl u ↦ (let e : verdict w x asking (keys c) ≡ Serve = is_serve_Serve _ u in
        subst (λ y. (new : Base n goal y plan listed) × Stays n goal w y plan listed b new) (sym (after_served w x asking c e)) (served_base n goal w plan listed x asking c b answers.0 (served_by w x asking (keys c) e)))
    | inr u ↦ subst (λ y. (new : Base n goal y plan listed) × Stays n goal w y plan listed b new) (sym (after_told w x asking c answers.0 u)) (b, λ t. refl)
  ]
