-- An administrative command that the plan wants is not refused, and keeps the invariant.
use Rattle.std.proofs.Common.{◌≡◌, ◌≢◌, ◌⊎◌, ℕ, ◌<◌, ◌≤◌, Bool, true, false, cond, not, eqb, ◌&&◌, List, [], ◌∷◌, length, get_or, Option, Some, None, is_some, is_none, option_map, sym, refl, ap, ◌∙◌, subst, subst₂, arith, inl, inr, nat_cmp, is_eq, Ordering, Equal, Less, Greater}
use Rattle.std.specs.Prelude.{nat_lt}
use Rattle.std.proofs.lemmas.Bool.{cases_eq, true≢false, lt-ltb, eqb-true, eqb-false, ne_eqb, eq-eqb, cond-true, cond-false, and_left, and_right, or_left, false_from_ne_true, or_parts}
use Rattle.std.proofs.lemmas.List.{length-set, get_or-set_same, get_or-set_other}
use Rattle.std.specs.FinMap as map
use Rattle.std.specs.FinMap.{get-insert, get-remove, nat_cmp-IsAntisymmetric}
use Rattle.std.specs.Cmp.{nat_cmp_total, tied_itself}
use Rattle.std.specs.List.{list_any}
use Rattle.store_commands.specs.Store.{Key, Store, is_named, same_key}
use Rattle.typed_values.specs.declared.value.Value.{Value}
use Rattle.key_slots.specs.HashSlot.{slot_of}
use Rattle.cluster_world.specs.Worlds.{World, node_at, change_node, owner, migrating, importing, held}
use Rattle.cluster_node.specs.Nodes.{Node, is_present}
use Rattle.slot_marks.specs.Verdicts.{first_slot}
use Rattle.cluster_world.specs.declared.event.Event.{Event}
use Rattle.cluster_world.specs.declared.event.Event.TheVariants.{Admin}
use Rattle.cluster_admin.specs.declared.admin.AdminCommand.{AdminCommand}
use Rattle.cluster_admin.specs.declared.admin.AdminCommand.TheVariants as command
use Rattle.cluster_admin.specs.declared.admin.AdminReply.{AdminReply}
use Rattle.byte_texts.specs.Outcomes.{first_refusal}
use Rattle.slot_marks.specs.declared.fault.SlotFault.{SlotFault}
use Rattle.cluster_admin.specs.Faults.{of_slot}
use Rattle.cluster_world.specs.Commanding.{admin_fault, effect}
use Rattle.cluster_node.specs.Administration.{node_if_accepted, target_if_accepted, setting_fault, reply_if_accepted}
use Rattle.std.proofs.Common.{suc, ◌+◌, ◌++◌, length-append}
use Rattle.std.proofs.Math.Seq.{get_or-append_seam}
use Rattle.std.specs.Prelude.{slice_index}
use Rattle.cluster_admin.specs.declared.admin.AdminReply.TheVariants as answers
use Rattle.store_commands.specs.Effects.{without}
use Rattle.plan_language.specs.declared.plan_command.PlanCommand.{PlanCommand}
use Rattle.plan_language.specs.declared.plan_command.PlanCommand.TheVariants as planned
use Rattle.plan_semantics.specs.Plans.{slot_named, part}
use Rattle.cluster_world.specs.Honesty.{WasAsked, IsNoImport}
use Rattle.slot_keyspace.proofs.Standing.{get-without}
use Rattle.reshard_theorem.proofs.Keys.{get-taken_over}
use Rattle.store_commands.proofs.Named.{same_itself}
use Rattle.reshard_theorem.proofs.Listing.{none_listed, none_standing}
use Rattle.cluster_world.specs.Servers.{ListsSlot, MayReply}
use Rattle.reshard_theorem.proofs.Counting.{none_by_listing, listed_slot}
use Rattle.reshard_theorem.proofs.Servers.{IsGranted, granted_reply}
use Rattle.reshard_theorem.proofs.Split.{Contents, Splits, move_splits, not_busy}
use Rattle.reshard_theorem.proofs.Phases.{Phase, Closed, Importing, Migrating, Drained, Rest, Marks, Emptied, CountOk, Fresh, Data, marks_same, emptied_same, data_same, both_false}
use Rattle.cluster_world.proofs.Viewing.{node_same, node_other, field_kept, length_kept}
use Rattle.reshard_theorem.proofs.Base.{Base, Inv, MarksIn, ListedOk}
use Rattle.reshard_theorem.proofs.Turns.{Opened, opened, Sent, sent, Draining, draining, Told, told, Stabled, stabled}

-- ---- marks

tied : (t s : ℕ) → t ≢ s → is_eq (nat_cmp t s) ≡ false
tied t s e = by (nat_cmp t s) refl
  where
    by : (r : Ordering) → nat_cmp t s ≡ r → is_eq r ≡ false
    by Less p = refl
    by Equal p = absurd (e (nat_cmp-IsAntisymmetric t s p))
    by Greater p = refl

same_slot : (s : ℕ) → is_eq (nat_cmp s s) ≡ true
same_slot s = ap is_eq (tied_itself nat_cmp_total s)

abbrev Mark : Type 0
Mark = map.FinMap nat_cmp ℕ

mark_here : (m : Mark) (s v : ℕ) → map.get (map.insert m s v) s ≡ Some v
mark_here m s v = get-insert nat_cmp_total m s v s ∙ cond-true _ _ _ (same_slot s)

mark_other : (m : Mark) (s v t : ℕ) → t ≢ s → map.get (map.insert m s v) t ≡ map.get m t
mark_other m s v t e = get-insert nat_cmp_total m s v t ∙ cond-false _ _ _ (tied t s e)

unmark_here : (m : Mark) (s : ℕ) → map.get (map.remove m s) s ≡ None
unmark_here m s = get-remove nat_cmp_total m s s ∙ cond-true _ _ _ (same_slot s)

unmark_other : (m : Mark) (s t : ℕ) → t ≢ s → map.get (map.remove m s) t ≡ map.get m t
unmark_other m s t e = get-remove nat_cmp_total m s t ∙ cond-false _ _ _ (tied t s e)

-- what the new node has on a field, and every other node keeps
field_changed : {A : Type 0} (f : Node → A) (w : World) (n : ℕ) (x : Node) (v : A) → n < length w.nodes → f x ≡ v → (m : ℕ) → f (node_at (change_node w n x) m) ≡ cond (eqb m n) v (f (node_at w m))
field_changed f w n x v h same m = elim (cases_eq m n) [
  | inl e ↦ subst (λ k. f (node_at (change_node w n x) k) ≡ v) (sym e) (ap f (node_same w n x h) ∙ same) ∙ sym (cond-true _ _ _ (eq-eqb m n e))
  | inr e ↦ ap f (node_other w n x m e) ∙ sym (cond-false _ _ _ (ne_eqb m n e))
]

-- ---- the parts of a plan

part_here : (o : PlanCommand) (plan : List PlanCommand) → part (o ∷ plan) (slot_named o) ≡ o ∷ part plan (slot_named o)
part_here o plan = cond-true _ _ _ (eq-eqb (slot_named o) (slot_named o) refl)

pub part_other : (o : PlanCommand) (plan : List PlanCommand) (t : ℕ) → t ≢ slot_named o → part (o ∷ plan) t ≡ part plan t
part_other o plan t e = cond-false _ _ _ (ne_eqb (slot_named o) t (λ p. e (sym p)))

-- the same marks at an equal rest
pub marks_part : (n goal s : ℕ) (own : ℕ → ℕ) (goes comes : ℕ → Option ℕ) (rest rest' : List PlanCommand) → rest ≡ rest' → (m : Marks n goal s own goes comes rest) → (m' : Marks n goal s own goes comes rest') × (m'.phase ≡ m.phase)
marks_part n goal s own goes comes rest rest' e m = (record { phase = m.phase; left = subst (λ r. Rest n goal s m.phase r) e m.left; owners = m.owners; going = m.going; coming = m.coming }, refl)

-- one slot continues to a later phase, and the others stay
abbrev pub Next : (n : ℕ) (goal : ℕ → ℕ) (w next : World) (plan rest : List PlanCommand) (listed listed' : Option (List Key)) → Base n goal w plan listed → ℕ → Phase → Type 0
Next n goal w next plan rest listed listed' b s later =
    (new : Base n goal next rest listed') × ((t : ℕ) → t ≢ s → (new.marks t).phase ≡ (b.marks t).phase) × ((new.marks s).phase ≡ later)

module _ (n : ℕ) (goal : ℕ → ℕ) (w : World) (plan : List PlanCommand) (listed : Option (List Key)) where
  -- only slot s changes
  one_slot : (s : ℕ) (next : World) (rest : List PlanCommand) (listed' : Option (List Key)) (later : Phase) (b : Base n goal w plan listed)
      → length next.nodes ≡ length w.nodes → ((m : ℕ) → length (node_at next m).owners ≡ length (node_at w m).owners)
      → ((t m : ℕ) → t ≢ s → owner next m t ≡ owner w m t) → ((t m : ℕ) → t ≢ s → migrating next m t ≡ migrating w m t) → ((t m : ℕ) → t ≢ s → importing next m t ≡ importing w m t)
      → ((t m : ℕ) (k : Key) → t ≢ s → slot_of k ≡ t → held next m k ≡ held w m k) → ((t : ℕ) → t ≢ s → part rest t ≡ part plan t)
      → ((new : MarksIn n goal next rest s) × (new.phase ≡ later)) → Emptied s later (held next) → ListedOk rest listed'
      → Next n goal w next plan rest listed listed' b s later
  one_slot s next rest listed' later b size widths own goes comes has parts new emptied listing = (
    record {
      size = size ∙ b.size;
      widths = λ m h. widths m ∙ b.widths m h;
      marks = λ t. (pick t (cases_eq t s)).0;
      emptied = λ t. (pick t (cases_eq t s)).3;
      listing = listing;
    },
    λ t. (pick t (cases_eq t s)).1,
    (pick s (cases_eq s s)).2 refl,
  )
    where
      pick : (t : ℕ) → (t ≡ s) ⊎ (t ≡ s → ⊥) → (m : MarksIn n goal next rest t) × (t ≢ s → m.phase ≡ (b.marks t).phase) × (t ≡ s → m.phase ≡ later) × Emptied t m.phase (held next)
      pick t (inl e) = (kept.0, λ u. absurd (u e), λ u. kept.1, subst (λ p. Emptied t p (held next)) (sym kept.1) (subst (λ u. Emptied u later (held next)) (sym e) emptied))
        where
          kept : (m : MarksIn n goal next rest t) × (m.phase ≡ later)
          kept = subst (λ u. (m : MarksIn n goal next rest u) × (m.phase ≡ later)) (sym e) new
      pick t (inr e) = (there.0, λ u. there.1 ∙ same.1, λ u. absurd (e u), subst (λ p. Emptied t p (held next)) (sym (there.1 ∙ same.1)) (emptied_same t (b.marks t).phase (held w) (held next) (λ m k i. has t m k e i) (b.emptied t)))
        where
          same : (m : Marks n (goal t) t (λ m. owner next m t) (λ m. migrating next m t) (λ m. importing next m t) (part plan t)) × (m.phase ≡ (b.marks t).phase)
          same = marks_same n (goal t) t _ _ _ _ _ _ (part plan t) (b.marks t) (λ m. own t m e) (λ m. goes t m e) (λ m. comes t m e)

          there : (m : MarksIn n goal next rest t) × (m.phase ≡ same.0.phase)
          there = marks_part n (goal t) t _ _ _ (part plan t) (part rest t) (sym (parts t e)) same.0

three_false : {F : Type 0} (a b c : Bool) (i j k : F) → a ≡ false → b ≡ false → c ≡ false → first_refusal ((a, i) ∷ (b, j) ∷ (c, k) ∷ []) ≡ None
three_false true b c i j k p q r = absurd (true≢false p)
three_false false true c i j k p q r = absurd (true≢false q)
three_false false false true i j k p q r = absurd (true≢false r)
three_false false false false i j k p q r = refl

two_false : {F : Type 0} (a b : Bool) (i j : F) → a ≡ false → b ≡ false → first_refusal ((a, i) ∷ (b, j) ∷ []) ≡ None
two_false true b i j p q = absurd (true≢false p)
two_false false true i j p q = absurd (true≢false q)
two_false false false i j p q = refl

no_slot_fault : {o : Option SlotFault} → o ≡ None → option_map of_slot o ≡ None
no_slot_fault e = ap (option_map of_slot) e

within : (w : World) (n m : ℕ) → length w.nodes ≡ n → m < n → not (nat_lt m (length w.nodes)) ≡ false
within w n m size h = ap not (lt-ltb m (length w.nodes) (subst (λ k. m < k) (sym size) h))

-- the slot's counts after a command: a mark that is set counts
abbrev pub NewCount : List ℕ → List ℕ → (ℕ → ℕ) → ℕ → AdminCommand → Type 0
NewCount ks ks' h r (command.Importing s m) = ks' ≡ ks
NewCount ks ks' h r (command.Migrating s m) = ks' ≡ ks ++ h r ∷ []
NewCount ks ks' h r (command.SetNode s m) = ks' ≡ ks
NewCount ks ks' h r (command.Stable s) = ks' ≡ ks
NewCount ks ks' h r (command.KeysIn s m) = ks' ≡ ks
NewCount ks ks' h r (command.Migrate qs m) = ks' ≡ ks

-- one drain more is after, or not
abbrev pub passed_on : Bool → ℕ → ℕ
passed_on true i = suc i
passed_on false i = i

-- what was asked before an administrator's call was asked before
pub earlier : (port : ℕ) (past : List Event) (r : ℕ) (c : AdminCommand) (reply : AdminReply) (ks : List Key) (m : ℕ) → WasAsked port (Admin r c reply ∷ past) ks m → WasAsked port past ks m
earlier port past r c reply ks m (inl u) = absurd u
earlier port past r c reply ks m (inr u) = u.1

-- since an accepted IMPORTING nothing was asked
import_asks : (port : ℕ) (past : List Event) (t s o : ℕ) (reply : AdminReply) (ks : List Key) (m : ℕ) → reply ≡ answers.Ok → first_slot ks ≡ s → WasAsked port (Admin t (command.Importing s o) reply ∷ past) ks m → m ≢ t
import_asks port past t s o told ks m e slot (inl u) = absurd u
import_asks port past t s o told ks m e slot (inr u) = let none : t ≡ m → s ≡ first_slot ks → ⊥ = (subst (λ x. IsNoImport (first_slot ks) m (Admin t (command.Importing s o) x)) e u.0) in λ f. none (sym f) (sym slot)

at_end : (ks : List ℕ) (v : ℕ) → slice_index (ks ++ v ∷ []) (length ks) ≡ v
at_end ks v = get_or-append_seam ks v [] 0

-- a command that is not refused and moves no key: the phases of its slot before and after it
pub record Calm (n : ℕ) (goal : ℕ → ℕ) (w : World) (plan rest : List PlanCommand) (listed listed' : Option (List Key)) (b : Base n goal w plan listed) (r : ℕ) (c : AdminCommand) (s : ℕ) (passes : Bool) : Type 0 where
  pub no_fault : admin_fault w r c ≡ None
  pub before : Phase
  pub later : Phase
  pub was : (b.marks s).phase ≡ before
  pub next : Next n goal w (effect w r c) plan rest listed listed' b s later
  pub same : (m : ℕ) (k : Key) → held (effect w r c) m k ≡ held w m k
  pub counted : (ks ks' : List ℕ) (i : ℕ) (h : ℕ → ℕ) → NewCount ks ks' h r c → CountOk ks i h before → CountOk ks' (passed_on passes i) h later
  pub exact : (ks ks' : List ℕ) (i : ℕ) (h : ℕ → ℕ) → NewCount ks ks' h r c → CountOk ks i h before → Fresh ks i h before → Fresh ks' (passed_on passes i) h later
  pub lies : (past : List Event) (reply : AdminReply) → IsGranted c reply → Data w.base_port s before (held w) past → Data w.base_port s later (held w) (Admin r c reply ∷ past)

module _ (n : ℕ) (goal : ℕ → ℕ) (w : World) (rest : List PlanCommand) where
  pub slot_at : (o : PlanCommand) (listed : Option (List Key)) (b : Base n goal w (o ∷ rest) listed)
      → (m : Marks n (goal (slot_named o)) (slot_named o) (λ m. owner w m (slot_named o)) (λ m. migrating w m (slot_named o)) (λ m. importing w m (slot_named o)) (o ∷ part rest (slot_named o))) × (m.phase ≡ (b.marks (slot_named o)).phase)
  slot_at o listed b = marks_part n _ _ _ _ _ _ _ (part_here o rest) (b.marks (slot_named o))

  pub import_step : (s o t : ℕ) (b : Base n goal w (planned.Importing s o t ∷ rest) None) → Calm n goal w (planned.Importing s o t ∷ rest) rest None None b t (command.Importing s o) s false
  unfolding admin_fault setting_fault effect node_if_accepted reply_if_accepted
  import_step s o t b = record {
    no_fault = no_slot_fault (three_false _ _ _ _ _ _ (ne_eqb (owner w t s) t (λ e. turn.apart (sym (turn.owned t turn.target_below) ∙ e))) (within w n o b.size turn.source_below) (ne_eqb o t turn.apart));
    before = Closed o;
    later = Importing o t;
    was = sym ok.1 ∙ turn.was;
    exact = λ ks ks' i h e g f. tt;
    counted = λ ks ks' i h e g. ap length e ∙ g;
    same = held_same;
    next = one_slot n goal w (planned.Importing s o t ∷ rest) None s next rest None (Importing o t) b (length_kept w t x) (λ m. field_kept (λ y. length y.owners) w t x inside refl m)
        (λ u m e. field_kept (λ y. get_or y.owners u 0) w t x inside refl m)
        (λ u m e. field_kept (λ y. map.get y.migrating u) w t x inside refl m)
        (λ u m e. field_kept (λ y. map.get y.importing u) w t x inside (mark_other _ s o u e) m)
        (λ u m k e i. held_same m k) (λ u e. sym (part_other (planned.Importing s o t) rest u e))
        (turn.next (λ m. field_kept (λ y. get_or y.owners s 0) w t x inside refl m) (λ m. field_kept (λ y. map.get y.migrating s) w t x inside refl m)
        (λ m. field_changed (λ y. map.get y.importing s) w t x (Some o) inside (mark_here _ s o) m))
        tt tt;
    lies = λ past told e d. record { place = d.place; asked = λ ks m v one slot. import_asks w.base_port past t s o told ks m e slot v };
  }
    where
      x : Node
      x = node_if_accepted t (node_at w t) (command.Importing s o)

      next : World
      next = change_node w t x

      ok : (m : Marks n (goal s) s (λ m. owner w m s) (λ m. migrating w m s) (λ m. importing w m s) (planned.Importing s o t ∷ part rest s)) × (m.phase ≡ (b.marks s).phase)
      ok = slot_at (planned.Importing s o t) None b

      turn : Opened n (goal s) s (λ m. owner w m s) (λ m. owner next m s) (λ m. migrating w m s) (λ m. migrating next m s) (λ m. importing w m s) (λ m. importing next m s) (part rest s) o t ok.0.phase
      turn = opened n (goal s) s _ _ _ _ _ _ (part rest s) o t ok.0

      inside : t < length w.nodes
      inside = subst (λ k. t < k) (sym b.size) turn.target_below

      held_same : (m : ℕ) (k : Key) → held next m k ≡ held w m k
      held_same m k = field_kept (λ y. map.get y.held k) w t x inside refl m

  pub send_step : (s t at : ℕ) (b : Base n goal w (planned.Migrating s t at ∷ rest) None) → Calm n goal w (planned.Migrating s t at ∷ rest) rest None None b at (command.Migrating s t) s false
  unfolding admin_fault setting_fault effect node_if_accepted
  send_step s t at b = record {
    no_fault = no_slot_fault (three_false _ _ _ _ _ _ (ap not (eq-eqb (owner w at s) at owned)) (within w n t b.size turn.1.target_below) (ne_eqb t at (λ e. turn.1.apart (sym turn.1.at_source ∙ sym e))));
    before = Importing turn.0 t;
    later = Migrating turn.0 t;
    was = sym ok.1 ∙ turn.1.was;
    exact = λ ks ks' i h e g f. fresh ks ks' i (h at) (h turn.0) e (ap h (sym turn.1.at_source)) g;
    counted = λ ks ks' i h e g. appended ks ks' i (h at) (h turn.0) e (ap h (sym turn.1.at_source)) g;
    same = held_same;
    next = one_slot n goal w (planned.Migrating s t at ∷ rest) None s next rest None (Migrating turn.0 t) b (length_kept w at x) (λ m. field_kept (λ y. length y.owners) w at x inside refl m)
        (λ u m e. field_kept (λ y. get_or y.owners u 0) w at x inside refl m)
        (λ u m e. field_kept (λ y. map.get y.migrating u) w at x inside (mark_other _ s t u e) m)
        (λ u m e. field_kept (λ y. map.get y.importing u) w at x inside refl m)
        (λ u m k e i. held_same m k) (λ u e. sym (part_other (planned.Migrating s t at) rest u e))
        (turn.1.next (λ m. field_kept (λ y. get_or y.owners s 0) w at x inside refl m)
        (λ m. field_changed (λ y. map.get y.migrating s) w at x (Some t) inside (mark_here _ s t) m ∙ ap (λ a. cond (eqb m a) (Some t) (migrating w m s)) turn.1.at_source)
        (λ m. field_kept (λ y. map.get y.importing s) w at x inside refl m))
        tt tt;
    lies = λ past told e d. record { place = λ m k i u. d.place m k i (or_parts (eqb m turn.0) (eqb m t) u).0; asked = λ ks m v one slot p. absurd (d.asked ks m (earlier w.base_port past at (command.Migrating s t) told ks m v) one slot p) };
  }
    where
      fresh : (ks ks' : List ℕ) (i v x : ℕ) → ks' ≡ ks ++ v ∷ [] → x ≡ v → length ks ≡ i → x ≡ slice_index ks' i
      fresh ks ks' i v x e f g = f ∙ sym (at_end ks v) ∙ (λ j. slice_index (sym e j) (g j))

      appended : (ks ks' : List ℕ) (i v x : ℕ) → ks' ≡ ks ++ v ∷ [] → x ≡ v → length ks ≡ i → (length ks' ≡ suc i) × (x ≤ slice_index ks' i)
      appended ks ks' i v x e f g =
          let size : length (ks ++ v ∷ []) ≡ length ks + 1 = length-append ks (v ∷ []) in
          let last : slice_index (ks ++ v ∷ []) (length ks) ≡ v = at_end ks v in
          (subst (λ l. length l ≡ suc i) (sym e) (omega arith), subst (λ l. x ≤ slice_index l i) (sym e) (subst (λ j. x ≤ slice_index (ks ++ v ∷ []) j) g (omega arith)))

      x : Node
      x = node_if_accepted at (node_at w at) (command.Migrating s t)

      next : World
      next = change_node w at x

      ok : (m : Marks n (goal s) s (λ m. owner w m s) (λ m. migrating w m s) (λ m. importing w m s) (planned.Migrating s t at ∷ part rest s)) × (m.phase ≡ (b.marks s).phase)
      ok = slot_at (planned.Migrating s t at) None b

      turn : (o : ℕ) × Sent n (goal s) s (λ m. owner w m s) (λ m. owner next m s) (λ m. migrating w m s) (λ m. migrating next m s) (λ m. importing w m s) (λ m. importing next m s) (part rest s) o t at ok.0.phase
      turn = sent n (goal s) s _ _ _ _ _ _ (part rest s) t at ok.0

      inside : at < length w.nodes
      inside = subst₂ (λ a k. a < k) (sym turn.1.at_source) (sym b.size) turn.1.source_below

      owned : owner w at s ≡ at
      owned = subst (λ a. owner w a s ≡ a) (sym turn.1.at_source) turn.1.owned

      held_same : (m : ℕ) (k : Key) → held next m k ≡ held w m k
      held_same m k = field_kept (λ y. map.get y.held k) w at x inside refl m

  pub drain_turn : (s o t b : ℕ) (listed : Option (List Key)) (base : Base n goal w (planned.Drain s o t b ∷ rest) listed) (next : World)
      → (m : Marks n (goal s) s (λ m. owner w m s) (λ m. migrating w m s) (λ m. importing w m s) (planned.Drain s o t b ∷ part rest s)) × (m.phase ≡ (base.marks s).phase)
      × Draining n (goal s) s (λ m. owner w m s) (λ m. owner next m s) (λ m. migrating w m s) (λ m. migrating next m s) (λ m. importing w m s) (λ m. importing next m s) (part rest s) o t b m.phase
  drain_turn s o t b listed base next =
      let ok : (m : Marks n (goal s) s (λ m. owner w m s) (λ m. migrating w m s) (λ m. importing w m s) (planned.Drain s o t b ∷ part rest s)) × (m.phase ≡ (base.marks s).phase) = slot_at (planned.Drain s o t b) listed base in
      (ok.0, ok.1, draining n (goal s) s _ _ _ _ _ _ (part rest s) o t b ok.0)

  pub list_none_step : (s o t b : ℕ) (base : Base n goal w (planned.Drain s o t b ∷ rest) None) → ListsSlot (node_at w o).held s b [] → Calm n goal w (planned.Drain s o t b ∷ rest) rest None None base o (command.KeysIn s b) s true
  unfolding admin_fault setting_fault effect
  list_none_step s o t b base none = record {
    no_fault = refl;
    before = Migrating o t;
    later = Drained o t;
    was = sym turn.1 ∙ turn.2.was;
    exact = λ ks ks' i h e g f. tt;
    counted = λ ks ks' i h e g. ap length e ∙ g.0;
    same = λ m k. refl;
    next = one_slot n goal w (planned.Drain s o t b ∷ rest) None s w rest None (Drained o t) base refl (λ m. refl)
        (λ u m e. refl) (λ u m e. refl) (λ u m e. refl) (λ u m k e i. refl) (λ u e. sym (part_other (planned.Drain s o t b) rest u e))
        (turn.2.emptied (λ m. refl) (λ m. refl) (λ m. refl)) empty tt;
    lies = λ past told e d. record {
      place = λ m k i u. elim (cases_eq m o) [
        | inl v ↦ ap (λ j. held w j k) v ∙ empty k i
        | inr v ↦ d.place m k i (both_false (eqb m o) (eqb m t) (ne_eqb m o v) u)
      ];
      asked = λ ks m v one slot. tt;
    };
  }
    where
      turn : (m : Marks n (goal s) s (λ m. owner w m s) (λ m. migrating w m s) (λ m. importing w m s) (planned.Drain s o t b ∷ part rest s)) × (m.phase ≡ (base.marks s).phase)
          × Draining n (goal s) s (λ m. owner w m s) (λ m. owner w m s) (λ m. migrating w m s) (λ m. migrating w m s) (λ m. importing w m s) (λ m. importing w m s) (part rest s) o t b m.phase
      turn = drain_turn s o t b None base w

      empty : (k : Key) → slot_of k ≡ s → held w o k ≡ None
      empty k i = none_listed _ s (none_by_listing _ s b turn.2.some none) k i

  pub list_none_later : (s o t b : ℕ) (base : Base n goal w (planned.Drain s o t b ∷ rest) None) (none : ListsSlot (node_at w o).held s b []) → (list_none_step s o t b base none).later ≡ Drained o t
  unfolding list_none_step
  list_none_later s o t b base none = refl

  pub list_some_step : (s o t b : ℕ) (k : Key) (ks : List Key) (base : Base n goal w (planned.Drain s o t b ∷ rest) None) → ListsSlot (node_at w o).held s b (k ∷ ks)
      → Calm n goal w (planned.Drain s o t b ∷ rest) (planned.Drain s o t b ∷ rest) None (Some (k ∷ ks)) base o (command.KeysIn s b) s false
  unfolding admin_fault setting_fault effect
  list_some_step s o t b k ks base some = record {
    no_fault = refl;
    before = (base.marks s).phase;
    later = (base.marks s).phase;
    was = refl;
    exact = λ js js' i h e g f. subst (λ a. Fresh a i h (base.marks s).phase) (sym e) f;
    counted = λ js js' i h e g. subst (λ a. CountOk a i h (base.marks s).phase) (sym e) g;
    same = λ m k. refl;
    next = (record { size = base.size; widths = base.widths; marks = base.marks; emptied = base.emptied; listing = (of_slot k (or_left (same_key k k) (is_named k ks) (same_itself k)), of_slot) }, λ t e. refl, refl);
    lies = λ past told e d. record { place = d.place; asked = λ qs m v one slot. d.asked qs m (earlier w.base_port past o (command.KeysIn s b) told qs m v) one slot };
  }
    where
      of_slot : (q : Key) → is_named q (k ∷ ks) ≡ true → slot_of q ≡ s
      of_slot q e = listed_slot (node_at w o).held s b (k ∷ ks) q some e

  pub list_some_phase : (s o t b : ℕ) (k : Key) (ks : List Key) (base : Base n goal w (planned.Drain s o t b ∷ rest) None) (some : ListsSlot (node_at w o).held s b (k ∷ ks))
      → (u : ℕ) → ((list_some_step s o t b k ks base some).next.0.marks u).phase ≡ (base.marks u).phase
  unfolding list_some_step
  list_some_phase s o t b k ks base some u = refl

  pub stable_step : (s at : ℕ) (b : Base n goal w (planned.Stable s at ∷ rest) None) → Calm n goal w (planned.Stable s at ∷ rest) rest None None b at (command.Stable s) s false
  unfolding admin_fault setting_fault effect node_if_accepted
  stable_step s at b = record {
    no_fault = refl;
    before = Importing turn.source at;
    later = Closed turn.source;
    was = sym ok.1 ∙ turn.was;
    exact = λ ks ks' i h e g f. tt;
    counted = λ ks ks' i h e g. ap length e ∙ g;
    same = held_same;
    next = one_slot n goal w (planned.Stable s at ∷ rest) None s next rest None (Closed turn.source) b (length_kept w at x) (λ m. field_kept (λ y. length y.owners) w at x inside refl m)
        (λ u m e. field_kept (λ y. get_or y.owners u 0) w at x inside refl m)
        (λ u m e. field_kept (λ y. map.get y.migrating u) w at x inside (unmark_other _ s u e) m)
        (λ u m e. field_kept (λ y. map.get y.importing u) w at x inside (unmark_other _ s u e) m)
        (λ u m k e i. held_same m k) (λ u e. sym (part_other (planned.Stable s at) rest u e))
        (turn.next (λ m. field_kept (λ y. get_or y.owners s 0) w at x inside refl m)
        (λ m. field_changed (λ y. map.get y.migrating s) w at x None inside (unmark_here _ s) m)
        (λ m. field_changed (λ y. map.get y.importing s) w at x None inside (unmark_here _ s) m))
        tt tt;
    lies = λ past told e d. record { place = d.place; asked = λ ks m v one slot. tt };
  }
    where
      x : Node
      x = node_if_accepted at (node_at w at) (command.Stable s)

      next : World
      next = change_node w at x

      ok : (m : Marks n (goal s) s (λ m. owner w m s) (λ m. migrating w m s) (λ m. importing w m s) (planned.Stable s at ∷ part rest s)) × (m.phase ≡ (b.marks s).phase)
      ok = slot_at (planned.Stable s at) None b

      turn : Stabled n (goal s) s (λ m. owner w m s) (λ m. owner next m s) (λ m. migrating w m s) (λ m. migrating next m s) (λ m. importing w m s) (λ m. importing next m s) (part rest s) at ok.0.phase
      turn = stabled n (goal s) s _ _ _ _ _ _ (part rest s) at ok.0

      inside : at < length w.nodes
      inside = subst (λ k. at < k) (sym b.size) turn.two.target_below

      held_same : (m : ℕ) (k : Key) → held next m k ≡ held w m k
      held_same m k = field_kept (λ y. map.get y.held k) w at x inside refl m

  pub tell_step : (s t at : ℕ) (b : Base n goal w (planned.SetNode s t at ∷ rest) None) → Calm n goal w (planned.SetNode s t at ∷ rest) rest None None b at (command.SetNode s t) s false
  unfolding admin_fault setting_fault effect node_if_accepted
  tell_step s t at b = record {
    no_fault = no_slot_fault (two_false _ _ _ _ (within w n t b.size turn.target_below)
        (third _ _ _ (λ o e. none_standing (node_at w at).held s (λ q i. turn.may (eqb-true (owner w at s) at o) (eqb-false t at e) (held w) before_emptied q i))));
    before = ok.0.phase;
    later = turn.later;
    was = sym ok.1;
    exact = λ ks ks' i h e g f. turn.fresh ks' i h;
    counted = λ ks ks' i h e g. subst (λ a. CountOk a i h turn.later) (sym e) (turn.counted ks i h g);
    same = held_same;
    next = one_slot n goal w (planned.SetNode s t at ∷ rest) None s next rest None turn.later b (length_kept w at x) (λ m. field_kept (λ y. length y.owners) w at x inside (length-set _ s t) m)
        (λ u m e. field_kept (λ y. get_or y.owners u 0) w at x inside (get_or-set_other _ s u t 0 e) m)
        (λ u m e. field_kept (λ y. map.get y.migrating u) w at x inside (kept_or_gone (eqb t at) _ u e) m)
        (λ u m e. field_kept (λ y. map.get y.importing u) w at x inside (gone_or_kept (eqb t at) _ u e) m)
        (λ u m k e i. held_same m k) (λ u e. sym (part_other (planned.SetNode s t at) rest u e))
        (turn.next (λ m. field_changed (λ y. get_or y.owners s 0) w at x t inside (get_or-set_same _ s t 0 wide) m)
        (λ m. field_changed (λ y. map.get y.migrating s) w at x (cond (eqb t at) (migrating w at s) None) inside (goes_at (eqb t at) _) m ∙ by_test_goes (eqb t at) m)
        (λ m. field_changed (λ y. map.get y.importing s) w at x (cond (eqb t at) None (importing w at s)) inside (comes_at (eqb t at) _) m ∙ by_test_comes (eqb t at) m))
        (emptied_same s turn.later (held w) (held next) (λ m k i. held_same m k) (turn.empties (held w) before_emptied)) tt;
    lies = λ past told e d. record { place = λ m k i u. d.place m k i (sym (turn.same_place m) ∙ u); asked = λ ks m v one slot. turn.free (held w) ks m };
  }
    where
      x : Node
      x = node_if_accepted at (node_at w at) (command.SetNode s t)

      next : World
      next = change_node w at x

      ok : (m : Marks n (goal s) s (λ m. owner w m s) (λ m. migrating w m s) (λ m. importing w m s) (planned.SetNode s t at ∷ part rest s)) × (m.phase ≡ (b.marks s).phase)
      ok = slot_at (planned.SetNode s t at) None b

      before_emptied : Emptied s ok.0.phase (held w)
      before_emptied = subst (λ p. Emptied s p (held w)) (sym ok.1) (b.emptied s)

      turn : Told n (goal s) s (λ m. owner w m s) (λ m. owner next m s) (λ m. migrating w m s) (λ m. migrating next m s) (λ m. importing w m s) (λ m. importing next m s) (part rest s) t at ok.0.phase
      turn = told n (goal s) s _ _ _ _ _ _ (part rest s) t at ok.0

      inside : at < length w.nodes
      inside = subst (λ k. at < k) (sym b.size) turn.at_below

      held_same : (m : ℕ) (k : Key) → held next m k ≡ held w m k
      held_same m k = field_kept (λ y. map.get y.held k) w at x inside refl m

      wide : s < length (node_at w at).owners
      wide = subst (λ k. s < k) (sym (b.widths at turn.at_below)) turn.slot_below

      kept_or_gone : (b : Bool) (marks : Mark) (u : ℕ) → u ≢ s → map.get (cond b marks (map.remove marks s)) u ≡ map.get marks u
      kept_or_gone true marks u e = refl
      kept_or_gone false marks u e = unmark_other marks s u e

      gone_or_kept : (b : Bool) (marks : Mark) (u : ℕ) → u ≢ s → map.get (cond b (map.remove marks s) marks) u ≡ map.get marks u
      gone_or_kept true marks u e = unmark_other marks s u e
      gone_or_kept false marks u e = refl

      goes_at : (b : Bool) (marks : Mark) → map.get (cond b marks (map.remove marks s)) s ≡ cond b (map.get marks s) None
      goes_at true marks = refl
      goes_at false marks = unmark_here marks s

      comes_at : (b : Bool) (marks : Mark) → map.get (cond b (map.remove marks s) marks) s ≡ cond b None (map.get marks s)
      comes_at true marks = unmark_here marks s
      comes_at false marks = refl

      at_node : (f : ℕ → Option ℕ) (m : ℕ) (b : Bool) → eqb m at ≡ b → cond b (f at) (f m) ≡ f m
      at_node f m true e = ap f (sym (eqb-true m at e))
      at_node f m false e = refl

      by_test_goes : (b : Bool) (m : ℕ) → cond (eqb m at) (cond b (migrating w at s) None) (migrating w m s) ≡ cond (eqb m at && not b) None (migrating w m s)
      by_test_goes true m = at_node (λ k. migrating w k s) m (eqb m at) refl ∙ sym (cond-false _ _ _ (and_right (eqb m at) false refl))
      by_test_goes false m = ap (λ c. cond c None (migrating w m s)) (and_one (eqb m at))
        where
          and_one : (c : Bool) → c ≡ (c && true)
          and_one true = refl
          and_one false = refl

      by_test_comes : (b : Bool) (m : ℕ) → cond (eqb m at) (cond b None (importing w at s)) (importing w m s) ≡ cond (eqb m at && b) None (importing w m s)
      by_test_comes false m = at_node (λ k. importing w k s) m (eqb m at) refl ∙ sym (cond-false _ _ _ (and_right (eqb m at) false refl))
      by_test_comes true m = ap (λ c. cond c None (importing w m s)) (and_one (eqb m at))
        where
          and_one : (c : Bool) → c ≡ (c && true)
          and_one true = refl
          and_one false = refl

      third : (owner_is same : Bool) (xs : List Key) → (owner_is ≡ true → same ≡ false → xs ≡ []) → (owner_is && not same && nat_lt 0 (length xs)) ≡ false
      third true true xs f = refl
      third true false xs f = ap (λ ys. nat_lt 0 (length ys)) (f refl refl)
      third false same xs f = refl

four_false : {F : Type 0} (a b c d : Bool) (i j k l : F) → a ≡ false → b ≡ false → c ≡ false → d ≡ false → first_refusal ((a, i) ∷ (b, j) ∷ (c, k) ∷ (d, l) ∷ []) ≡ None
four_false true b c d i j k l p q r s = absurd (true≢false p)
four_false false true c d i j k l p q r s = absurd (true≢false q)
four_false false false true d i j k l p q r s = absurd (true≢false r)
four_false false false false true i j k l p q r s = absurd (true≢false s)
four_false false false false false i j k l p q r s = refl

-- a batch that moves
pub record Batch (n : ℕ) (goal : ℕ → ℕ) (w : World) (rest : List PlanCommand) (s o t b : ℕ) (ks : List Key) (base : Base n goal w (planned.Drain s o t b ∷ rest) (Some ks)) : Type 0 where
  pub was : (base.marks s).phase ≡ Migrating o t
  pub apart : o ≢ t
  pub no_fault : list_any (λ k. is_some (held w o k) && is_some (held w t k)) ks ≡ false → admin_fault w o (command.Migrate ks t) ≡ None
  pub next : Next n goal w (effect w o (command.Migrate ks t)) (planned.Drain s o t b ∷ rest) (planned.Drain s o t b ∷ rest) (Some ks) None base s (Migrating o t)
  pub at_source : (q : Key) → held (effect w o (command.Migrate ks t)) o q ≡ cond (is_named q ks) None (held w o q)
  pub at_target : (q : Key) → held (effect w o (command.Migrate ks t)) t q ≡ cond (is_named q ks && is_some (held w o q)) (held w o q) (held w t q)
  pub elsewhere : (m : ℕ) (q : Key) → m ≢ o → m ≢ t → held (effect w o (command.Migrate ks t)) m q ≡ held w m q
  pub others : (m : ℕ) (k : Key) → slot_of k ≢ s → held (effect w o (command.Migrate ks t)) m k ≡ held w m k

module _ (n : ℕ) (goal : ℕ → ℕ) (w : World) (rest : List PlanCommand) where
  pub migrate_step : (s o t b : ℕ) (ks : List Key) (base : Base n goal w (planned.Drain s o t b ∷ rest) (Some ks)) → Batch n goal w rest s o t b ks base
  unfolding admin_fault setting_fault effect node_if_accepted target_if_accepted
  migrate_step s o t b ks base = record {
    was = sym turn.1 ∙ turn.2.was;
    apart = turn.2.apart;
    no_fault = λ free. four_false _ _ _ _ _ _ _ _ (within w n t base.size turn.2.target_below) (ne_eqb t o (λ e. turn.2.apart (sym e)))
        (and_right (list_any (is_present (node_at w o)) ks) (is_none (importing w t (first_slot ks))) (ap is_none imports)) free;
    at_source = at_source;
    at_target = at_target;
    elsewhere = elsewhere;
    others = λ m k e. others m k (false_from_ne_true (is_named k ks) (λ v. e (base.listing.1 k v)));
    next = one_slot n goal w (planned.Drain s o t b ∷ rest) (Some ks) s next (planned.Drain s o t b ∷ rest) None (Migrating o t) base
        (length_kept w1 o y ∙ length_kept w t x) (λ m. kept (λ z. length z.owners) refl refl m)
        (λ u m e. kept (λ z. get_or z.owners u 0) refl refl m)
        (λ u m e. kept (λ z. map.get z.migrating u) refl refl m)
        (λ u m e. kept (λ z. map.get z.importing u) refl refl m)
        (λ u m k e i. others m k (false_from_ne_true (is_named k ks) (λ v. e (sym i ∙ base.listing.1 k v))))
        (λ u e. refl)
        (new.0, new.1 ∙ sym turn.1 ∙ turn.2.was)
        tt tt;
  }
    where
      x : Node
      x = target_if_accepted (node_at w o) (node_at w t) ks

      y : Node
      y = record (node_at w o) { held = without (node_at w o).held ks }

      w1 : World
      w1 = change_node w t x

      next : World
      next = change_node w1 o y

      turn : (m : Marks n (goal s) s (λ m. owner w m s) (λ m. migrating w m s) (λ m. importing w m s) (planned.Drain s o t b ∷ part rest s)) × (m.phase ≡ (base.marks s).phase)
          × Draining n (goal s) s (λ m. owner w m s) (λ m. owner next m s) (λ m. migrating w m s) (λ m. migrating next m s) (λ m. importing w m s) (λ m. importing next m s) (part rest s) o t b m.phase
      turn = drain_turn n goal w rest s o t b (Some ks) base next

      inside_t : t < length w.nodes
      inside_t = subst (λ k. t < k) (sym base.size) turn.2.target_below

      inside_o : o < length w1.nodes
      inside_o = subst (λ k. o < k) (sym (length_kept w t x ∙ base.size)) turn.2.source_below

      source_same : node_at w1 o ≡ node_at w o
      source_same = node_other w t x o turn.2.apart

      kept : {A : Type 0} (f : Node → A) → f x ≡ f (node_at w t) → f y ≡ f (node_at w o) → (m : ℕ) → f (node_at next m) ≡ f (node_at w m)
      kept f e g m = field_kept f w1 o y inside_o (g ∙ ap f (sym source_same)) m ∙ field_kept f w t x inside_t e m

      new : (m : MarksIn n goal next (planned.Drain s o t b ∷ rest) s) × (m.phase ≡ (base.marks s).phase)
      new = marks_same n (goal s) s _ _ _ _ _ _ (part (planned.Drain s o t b ∷ rest) s) (base.marks s) (λ m. kept (λ z. get_or z.owners s 0) refl refl m) (λ m. kept (λ z. map.get z.migrating s) refl refl m) (λ m. kept (λ z. map.get z.importing s) refl refl m)

      at_source : (q : Key) → held next o q ≡ cond (is_named q ks) None (held w o q)
      at_source q = ap (λ z. map.get z.held q) (node_same w1 o y inside_o) ∙ get-without (node_at w o).held ks q

      at_target : (q : Key) → held next t q ≡ cond (is_named q ks && is_some (held w o q)) (held w o q) (held w t q)
      at_target q = ap (λ z. map.get z.held q) (node_other w1 o y t (λ e. turn.2.apart (sym e)) ∙ node_same w t x inside_t) ∙ get-taken_over (node_at w o) (node_at w t) ks q

      elsewhere : (m : ℕ) (q : Key) → m ≢ o → m ≢ t → held next m q ≡ held w m q
      elsewhere m q p r = ap (λ z. map.get z.held q) (node_other w1 o y m p ∙ node_other w t x m r)

      others : (m : ℕ) (k : Key) → is_named k ks ≡ false → held next m k ≡ held w m k
      others m k e = elim (cases_eq m o) [
        | inl u ↦ subst (λ j. held next j k ≡ held w j k) (sym u) (at_source k ∙ cond-false _ _ _ e)
        | inr u ↦ elim (cases_eq m t) [
          | inl v ↦ subst (λ j. held next j k ≡ held w j k) (sym v) (at_target k ∙ cond-false _ _ _ (and_left (is_named k ks) (is_some (held w o k)) e))
          | inr v ↦ elsewhere m k u v
        ]
      ]

      imports : importing w t (first_slot ks) ≡ Some o
      imports = ap (importing w t) base.listing.0 ∙ turn.2.imports

-- ---- the same with the contents, where clients are honest

pub split_same : (has has' : Contents) (all : Key → Option Value) → Splits has all → ((m : ℕ) (k : Key) → has' m k ≡ has m k) → Splits has' all
split_same has has' all split same k = ((split k).0, same _ k ∙ (split k).1, λ m e. same m k ∙ (split k).2 m e)

data_all : (port s : ℕ) (phase : Phase) (has has' : Contents) (past : List Event) → ((m : ℕ) (k : Key) → has' m k ≡ has m k) → Data port s phase has past → Data port s phase has' past
data_all port s phase has has' past same d = data_same port s phase has has' past past d (λ m k i. same m k) (λ ks m v one slot. v)

-- what an administrative step has to show
abbrev pub AdminGood : (n : ℕ) (goal : ℕ → ℕ) (w : World) (past : List Event) (r : ℕ) (c : AdminCommand) (reply : AdminReply) (rest : List PlanCommand) (listed : Option (List Key)) (store : Store) → Type 0
AdminGood n goal w past r c reply rest listed store = (admin_fault w r c ≡ None) × Inv n goal (effect w r c) (Admin r c reply ∷ past) rest listed store

pub effect_port : (w : World) (r : ℕ) (c : AdminCommand) → (effect w r c).base_port ≡ w.base_port
unfolding effect
effect_port w r (command.Importing s m) = refl
effect_port w r (command.Migrating s m) = refl
effect_port w r (command.SetNode s m) = refl
effect_port w r (command.Stable s) = refl
effect_port w r (command.KeysIn s b) = refl
effect_port w r (command.Migrate ks m) = refl

module _ (n : ℕ) (goal : ℕ → ℕ) (w : World) (past : List Event) (plan rest : List PlanCommand) (listed listed' : Option (List Key)) (store : Store) (r : ℕ) (c : AdminCommand) (reply : AdminReply) (s : ℕ) (passes : Bool) where
  pub calm_good : (inv : Inv n goal w past plan listed store) → MayReply w r c reply → Calm n goal w plan rest listed listed' inv.base r c s passes → AdminGood n goal w past r c reply rest listed' store
  calm_good inv e calm = (
    calm.no_fault,
    record {
      base = calm.next.0;
      lies = λ t. subst (λ p. Data p t (calm.next.0.marks t).phase (held (effect w r c)) (Admin r c reply ∷ past)) (sym (effect_port w r c)) (elim (cases_eq t s) [
        | inl f ↦ subst (λ u. Data w.base_port u (calm.next.0.marks u).phase (held (effect w r c)) (Admin r c reply ∷ past)) (sym f)
            (subst (λ p. Data w.base_port s p (held (effect w r c)) (Admin r c reply ∷ past)) (sym calm.next.2)
            (data_all w.base_port s calm.later (held w) (held (effect w r c)) (Admin r c reply ∷ past) calm.same
            (calm.lies past reply (granted_reply w r c reply e calm.no_fault) (subst (λ p. Data w.base_port s p (held w) past) calm.was (inv.lies s)))))
        | inr f ↦ subst (λ p. Data w.base_port t p (held (effect w r c)) (Admin r c reply ∷ past)) (sym (calm.next.1 t f))
            (data_same w.base_port t (inv.base.marks t).phase (held w) (held (effect w r c)) past (Admin r c reply ∷ past) (inv.lies t) (λ m k i. calm.same m k) (λ ks m v one slot. earlier w.base_port past r c reply ks m v))
      ]);
      split = split_same (held w) (held (effect w r c)) (map.get store) inv.split calm.same;
    },
  )

pub batch_good : (n : ℕ) (goal : ℕ → ℕ) (w : World) (past : List Event) (rest : List PlanCommand) (store : Store) (reply : AdminReply) (s o t b : ℕ) (ks : List Key)
    (inv : Inv n goal w past (planned.Drain s o t b ∷ rest) (Some ks) store) → Batch n goal w rest s o t b ks inv.base → AdminGood n goal w past o (command.Migrate ks t) reply (planned.Drain s o t b ∷ rest) None store
unfolding effect
batch_good n goal w past rest store reply s o t b ks inv batch = (
  batch.no_fault (not_busy (held w) (held next) (map.get store) o t ks batch.apart inv.split),
  record {
    base = batch.next.0;
    lies = λ u. elim (cases_eq u s) [
      | inl e ↦ subst (λ v. Data w.base_port v (batch.next.0.marks v).phase (held next) (Admin o (command.Migrate ks t) reply ∷ past)) (sym e)
          (subst (λ p. Data w.base_port s p (held next) (Admin o (command.Migrate ks t) reply ∷ past)) (sym batch.next.2) moved)
      | inr e ↦ subst (λ p. Data w.base_port u p (held next) (Admin o (command.Migrate ks t) reply ∷ past)) (sym (batch.next.1 u e))
          (data_same w.base_port u (inv.base.marks u).phase (held w) (held next) past (Admin o (command.Migrate ks t) reply ∷ past) (inv.lies u) (λ m k i. batch.others m k (λ v. e (sym i ∙ v))) (λ qs m v one slot. earlier w.base_port past o (command.Migrate ks t) reply qs m v))
    ];
    split = move_splits (held w) (held next) (map.get store) o t ks batch.apart inv.split batch.at_source batch.at_target batch.elsewhere;
  },
)
  where
    next : World
    next = effect w o (command.Migrate ks t)

    old : Data w.base_port s (Migrating o t) (held w) past
    old = subst (λ p. Data w.base_port s p (held w) past) batch.was (inv.lies s)

    none_cond : (c : Bool) (v : Option Value) → v ≡ None → cond c None v ≡ None
    none_cond true v e = refl
    none_cond false v e = e

    moved : Data w.base_port s (Migrating o t) (held next) (Admin o (command.Migrate ks t) reply ∷ past)
    moved = record {
      place = λ m k i u. batch.elsewhere m k (eqb-false m o (or_parts (eqb m o) (eqb m t) u).0) (eqb-false m t (or_parts (eqb m o) (eqb m t) u).1) ∙ old.place m k i u;
      asked = λ qs m v one slot p q i. batch.at_source q ∙ none_cond (is_named q ks) (held w o q) (old.asked qs m (earlier w.base_port past o (command.Migrate ks t) reply qs m v) one slot p q i);
    }
