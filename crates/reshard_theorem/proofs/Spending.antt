-- The administrator's calls stay within the plan's cost.
use Rattle.std.proofs.Common.{◌≡◌, ◌≢◌, ◌⊎◌, ℕ, zero, suc, ◌+◌, ◌-◌, ◌*◌, ◌≤◌, Bool, true, false, cond, eqb, List, [], ◌∷◌, ◌++◌, length, Option, Some, None, is_some, sym, refl, ap, ◌∙◌, subst, subst₂, arith, inl, inr}
use Rattle.std.proofs.lemmas.Bool.{cases_Bool, cases_eq, true≢false, ne_eqb, eq-eqb, cond-true, cond-false}
use native.Mathlib.Nat.{div-zero}
use Rattle.key_slots.specs.HashSlot.{slot_of}
use Rattle.typed_values.specs.declared.value.Value.{Value}
use Rattle.store_commands.specs.Store.{Key, is_named}
use Rattle.slot_keyspace.specs.Listing.{keys_of}
use Rattle.cluster_node.specs.Administration.{reply_if_accepted, reply_or}
use Rattle.cluster_admin.specs.declared.admin.AdminFault.{AdminFault}
use Rattle.cluster_admin.specs.declared.admin.AdminCommand.{AdminCommand}
use Rattle.cluster_admin.specs.declared.admin.AdminCommand.TheVariants as command
use Rattle.cluster_admin.specs.declared.admin.AdminReply.{AdminReply}
use Rattle.cluster_admin.specs.declared.admin.AdminReply.TheVariants as answers
use Rattle.cluster_world.specs.Worlds.{World, node_at, owner, migrating, held}
use Rattle.cluster_world.specs.Commanding.{admin_fault, effect, admin_reply, admin_after}
use Rattle.cluster_world.specs.Steps.{after}
use Rattle.cluster_world.specs.declared.event.Event.{Event}
use Rattle.cluster_world.specs.declared.event.Event.TheVariants.{Client, Look, Admin}
use Rattle.plan_language.specs.declared.plan_command.PlanCommand.{PlanCommand}
use Rattle.plan_language.specs.declared.plan_command.PlanCommand.TheVariants as planned
use Rattle.plan_semantics.specs.Plans.{part, final_owner}
use Rattle.plan_semantics.specs.Driving.{remaining, called, Spells, Spelled, StopsAtRefusal, is_refused}
use Rattle.cluster_world.specs.AdminCalls.{calls}
use Rattle.std.specs.Prelude.{slice_index}
use Rattle.std.proofs.Math.ListN.{get_or-append}
use Rattle.std.proofs.lemmas.List.{get_or_past}
use Rattle.std.proofs.lemmas.Bool.{cases_lt}
use Rattle.plan_semantics.specs.Plans.{Leg, Move, Try, legs_of}
use Rattle.plan_semantics.specs.Costs.{rounds, Counts, one_more, cost, none_passed}
use Rattle.reshard_theorem.specs.Counts.{counts_after, counts, first_count, first_counts}
use Rattle.reshard_theorem.proofs.Phases.{Phase, Closed, Importing, Migrating, Drained, TargetTold, SourceTold, own_in, goes_in, Rest, CountOk}
use Rattle.reshard_theorem.proofs.Base.{Base, Stays}
use Rattle.reshard_theorem.proofs.Admins.{Calm, Batch, NewCount, drain_turn, import_step, send_step, list_none_step, list_some_step, migrate_step, tell_step, stable_step, passed_on}
use Rattle.reshard_theorem.proofs.Whole.{after_admin}
use Rattle.reshard_theorem.proofs.Servers.{listing_keys}
use Rattle.cluster_world.specs.Servers.{ListsSlot, MayReply, ServerRun}
use Rattle.reshard_theorem.proofs.Counting.{rounds_mono, rounds_step, count_le, left_of, left_exact, some_by_listing, left_le, left_after_batch}
use Rattle.reshard_theorem.specs.DrivenRuns.{GainsNone}
use Rattle.reshard_theorem.specs.ServerRuns.{ServersWithinCost}
use Rattle.reshard_theorem.proofs.Clients.{client_base}
use Rattle.reshard_theorem.proofs.Gains.{none_fault, client_gain, first_base}

-- how many keys of the slot the node holds
abbrev pub count : World → ℕ → ℕ → ℕ
count w s o = length (keys_of (node_at w o).held s)

-- what the rest of the plan still takes: the drain in front by the keys that are still there, the others by the counts
abbrev pub due : (ℕ → ℕ) → Counts → World → List PlanCommand → Option (List Key) → ℕ
due p κ w [] listed = 0
due p κ w (planned.Importing s m at ∷ rest) listed = 1 + cost p κ rest
due p κ w (planned.Migrating s m at ∷ rest) listed = 1 + cost p κ rest
due p κ w (planned.SetNode s m at ∷ rest) listed = 1 + cost p κ rest
due p κ w (planned.Stable s at ∷ rest) listed = 1 + cost p κ rest
due p κ w (planned.Drain s o t b ∷ rest) None = (2 * rounds b (count w s o) + 1) + cost (one_more p s) κ rest
due p κ w (planned.Drain s o t b ∷ rest) (Some ks) = (2 * rounds b (length (left_of (node_at w o).held s ks)) + 2) + cost (one_more p s) κ rest

-- no count is less
abbrev pub Grows : Counts → Counts → Type 0
Grows κ κ' = (s i : ℕ) → slice_index (κ s) i ≤ slice_index (κ' s) i

pub grow_append : (xs : List ℕ) (v i : ℕ) → slice_index xs i ≤ slice_index (xs ++ v ∷ []) i
grow_append xs v i = elim (cases_lt i (length xs)) [
  | inl h ↦ (let e : slice_index (xs ++ v ∷ []) i ≡ slice_index xs i = get_or-append xs (v ∷ []) 0 i h in omega arith)
  | inr h ↦ (let e : slice_index xs i ≡ 0 = get_or_past xs i 0 h in omega arith)
]

pub grows_same : (κ : Counts) → Grows κ κ
grows_same κ s i = omega arith

pub one_here : (p : ℕ → ℕ) (s : ℕ) → one_more p s s ≡ suc (p s)
one_here p s = let e : one_more p s s ≡ 1 + p s = cond-true _ _ _ (eq-eqb s s refl) in omega arith

pub one_other : (p : ℕ → ℕ) (s t : ℕ) → t ≢ s → one_more p s t ≡ p t
one_other p s t e = cond-false _ _ _ (ne_eqb t s e)

module _ (n : ℕ) (goal : ℕ → ℕ) (whole : List PlanCommand) where
  pub record Counted (κ : Counts) (w : World) (rest : List PlanCommand) (listed : Option (List Key)) (spent : ℕ) : Type 0 where
    pub base : Base n goal w rest listed
    -- how many drains of each slot are after
    pub passed : ℕ → ℕ
    pub slots : (s : ℕ) → CountOk (κ s) (passed s) (count w s) (base.marks s).phase
    -- what the commands after cost, by any counts
    pub behind : Counts → ℕ
    pub splits : (κ' : Counts) → cost none_passed κ' whole ≡ behind κ' + cost passed κ' rest
    pub grows : (κ κ' : Counts) → Grows κ κ' → behind κ ≤ behind κ'
    pub paid : spent + due passed κ w rest listed ≤ behind κ + cost passed κ rest

  pub rounds_grow : (b h k : ℕ) → h ≤ k → rounds b h ≤ rounds b k
  rounds_grow zero h k le = subst₂ (λ x y. x ≤ y) (sym (div-zero _)) (sym (div-zero _)) (omega arith)
  rounds_grow (suc b) h k le = rounds_mono (suc b) h k (omega arith) le

  pub bound : (κ : Counts) (w : World) (rest : List PlanCommand) (listed : Option (List Key)) (spent : ℕ) → Counted κ w rest listed spent → spent ≤ cost none_passed κ whole
  bound κ w rest listed spent c = let e : cost none_passed κ whole ≡ c.behind κ + cost c.passed κ rest = c.splits κ in let p = c.paid in omega arith

  -- before a command begins, no more is due than the cost
  due_le : (p : ℕ → ℕ) (κ : Counts) (w : World) (rest : List PlanCommand) (b : Base n goal w rest None) → ((s : ℕ) → CountOk (κ s) (p s) (count w s) (b.marks s).phase) → due p κ w rest None ≤ cost p κ rest
  due_le p κ w [] b ok = omega arith
  due_le p κ w (planned.Importing s m at ∷ rest) b ok = omega arith
  due_le p κ w (planned.Migrating s m at ∷ rest) b ok = omega arith
  due_le p κ w (planned.SetNode s m at ∷ rest) b ok = omega arith
  due_le p κ w (planned.Stable s at ∷ rest) b ok = omega arith
  due_le p κ w (planned.Drain s o t d ∷ rest) b ok =
      let turn = drain_turn n goal w rest s o t d None b w in
      let ok' : CountOk (κ s) (p s) (count w s) (Migrating o t) = subst (λ q. CountOk (κ s) (p s) (count w s) q) (sym turn.1 ∙ turn.2.was) (ok s) in
      let g : rounds d (count w s o) ≤ rounds d (slice_index (κ s) (p s)) = rounds_grow d (count w s o) (slice_index (κ s) (p s)) ok'.1 in
      omega arith

  -- ---- clients

  pub count_kept : (ks : List ℕ) (i : ℕ) (h h' : ℕ → ℕ) (phase : Phase) → ((o t : ℕ) → phase ≡ Migrating o t → h' o ≤ h o) → CountOk ks i h phase → CountOk ks i h' phase
  count_kept ks i h h' (Closed o) le g = g
  count_kept ks i h h' (Importing o t) le g = g
  count_kept ks i h h' (Migrating o t) le g = let l : h' o ≤ h o = le o t refl in let m : h o ≤ slice_index ks i = g.1 in (g.0, omega arith)
  count_kept ks i h h' (Drained o t) le g = g
  count_kept ks i h h' (TargetTold o t) le g = g
  count_kept ks i h h' (SourceTold o t left) le g = g

  pub source_facts : (w : World) (rest : List PlanCommand) (listed : Option (List Key)) (b : Base n goal w rest listed) (s o t : ℕ) → (b.marks s).phase ≡ Migrating o t → (owner w o s ≡ o) × (migrating w o s ≢ None)
  source_facts w rest listed b s o t e =
      let left : Rest n (goal s) s (Migrating o t) (part rest s) = subst (λ p. Rest n (goal s) s p (part rest s)) e (b.marks s).left in (
        (b.marks s).owners o left.ends.source_below ∙ ap (λ p. own_in p o) e,
        λ none. some_none t (sym (cond-true (eqb o o) (Some t) None (eq-eqb o o refl)) ∙ sym (ap (λ p. goes_in p o) e) ∙ sym ((b.marks s).going o) ∙ none),
      )
    where
      some_none : (m : ℕ) → Some m ≡ None → ⊥
      some_none m u = true≢false (ap is_some u)

  pub client_counted : (κ : Counts) (w next : World) (rest : List PlanCommand) (listed : Option (List Key)) (spent : ℕ) (c : Counted κ w rest listed spent)
      → (new : Base n goal next rest listed) → Stays n goal w next rest listed c.base new → GainsNone w next → Counted κ next rest listed spent
  client_counted κ w next rest listed spent c new stays gains = record {
    base = new;
    passed = c.passed;
    slots = λ s. subst (λ p. CountOk (κ s) (c.passed s) (count next s) p) (sym (stays s)) (count_kept (κ s) (c.passed s) (count w s) (count next s) (c.base.marks s).phase (λ o t e. less s o t e) (c.slots s));
    behind = c.behind;
    splits = c.splits;
    grows = c.grows;
    paid = let p = c.paid in let l : due c.passed κ next rest listed ≤ due c.passed κ w rest listed = due_less rest listed c.base less' in omega arith;
  }
    where
      gain : (s o t : ℕ) → (c.base.marks s).phase ≡ Migrating o t → (k : Key) → slot_of k ≡ s → held w o k ≡ None → held next o k ≡ None
      gain s o t e k i h = let f = source_facts w rest listed c.base s o t e in gains o s k f.0 f.1 i h

      less : (s o t : ℕ) → (c.base.marks s).phase ≡ Migrating o t → count next s o ≤ count w s o
      less s o t e = count_le (node_at w o).held (node_at next o).held s (gain s o t e)

      less' : (s o t : ℕ) → (c.base.marks s).phase ≡ Migrating o t → (k : Key) → slot_of k ≡ s → held w o k ≡ None → held next o k ≡ None
      less' = gain

      due_less : (rest : List PlanCommand) (listed : Option (List Key)) (b : Base n goal w rest listed) → ((s o t : ℕ) → (b.marks s).phase ≡ Migrating o t → (k : Key) → slot_of k ≡ s → held w o k ≡ None → held next o k ≡ None) → due c.passed κ next rest listed ≤ due c.passed κ w rest listed
      due_less [] listed b g = omega arith
      due_less (planned.Importing s m at ∷ rest) listed b g = omega arith
      due_less (planned.Migrating s m at ∷ rest) listed b g = omega arith
      due_less (planned.SetNode s m at ∷ rest) listed b g = omega arith
      due_less (planned.Stable s at ∷ rest) listed b g = omega arith
      due_less (planned.Drain s o t d ∷ rest) None b g =
          let turn = drain_turn n goal w rest s o t d None b w in
          let l : rounds d (count next s o) ≤ rounds d (count w s o) = rounds_grow d _ _ (count_le (node_at w o).held (node_at next o).held s (g s o t (sym turn.1 ∙ turn.2.was))) in
          omega arith
      due_less (planned.Drain s o t d ∷ rest) (Some ks) b g =
          let turn = drain_turn n goal w rest s o t d (Some ks) b w in
          let l : rounds d (length (left_of (node_at next o).held s ks)) ≤ rounds d (length (left_of (node_at w o).held s ks)) = rounds_grow d _ _ (left_le (node_at w o).held (node_at next o).held s ks (g s o t (sym turn.1 ∙ turn.2.was))) in
          omega arith

  -- ---- the plan's commands

  calm_counted : (κ κ' : Counts) (w : World) (rest rest' : List PlanCommand) (listed listed' : Option (List Key)) (spent r s : ℕ) (c : AdminCommand) (passes : Bool) (cd : Counted κ w rest listed spent)
      → (calm : Calm n goal w rest rest' listed listed' cd.base r c s passes) → NewCount (κ s) (κ' s) (count w s) r c → ((t : ℕ) → t ≢ s → κ' t ≡ κ t)
      → (passed' : ℕ → ℕ) → passed' s ≡ passed_on passes (cd.passed s) → ((t : ℕ) → t ≢ s → passed' t ≡ cd.passed t)
      → (behind' : Counts → ℕ) → ((x : Counts) → cost none_passed x whole ≡ behind' x + cost passed' x rest') → ((x y : Counts) → Grows x y → behind' x ≤ behind' y)
      → (((t : ℕ) → CountOk (κ' t) (passed' t) (count (effect w r c) t) (calm.next.0.marks t).phase) → 1 + spent + due passed' κ' (effect w r c) rest' listed' ≤ behind' κ' + cost passed' κ' rest')
      → Counted κ' (effect w r c) rest' listed' (1 + spent)
  calm_counted κ κ' w rest rest' listed listed' spent r s c passes cd calm new others passed' here there behind' splits' grows' pays = record {
    base = calm.next.0;
    passed = passed';
    slots = slots;
    behind = behind';
    splits = splits';
    grows = grows';
    paid = pays slots;
  }
    where
      at : CountOk (κ' s) (passed' s) (count w s) calm.later
      at = subst (λ i. CountOk (κ' s) i (count w s) calm.later) (sym here) (calm.counted (κ s) (κ' s) (cd.passed s) (count w s) new (subst (λ p. CountOk (κ s) (cd.passed s) (count w s) p) calm.was (cd.slots s)))

      same : (t o : ℕ) → count (effect w r c) t o ≤ count w t o
      same t o = count_le (node_at w o).held (node_at (effect w r c) o).held t (λ k i h. calm.same o k ∙ h)

      slots : (t : ℕ) → CountOk (κ' t) (passed' t) (count (effect w r c) t) (calm.next.0.marks t).phase
      slots t = elim (cases_eq t s) [
        | inl e ↦ subst (λ u. CountOk (κ' u) (passed' u) (count (effect w r c) u) (calm.next.0.marks u).phase) (sym e)
            (subst (λ p. CountOk (κ' s) (passed' s) (count (effect w r c) s) p) (sym calm.next.2) (count_kept (κ' s) (passed' s) (count w s) (count (effect w r c) s) calm.later (λ o t e. same s o) at))
        | inr e ↦ subst₂ (λ k p. CountOk k (passed' t) (count (effect w r c) t) p) (sym (others t e)) (sym (calm.next.1 t e))
            (subst (λ i. CountOk (κ t) i (count (effect w r c) t) (cd.base.marks t).phase) (sym (there t e)) (count_kept (κ t) (cd.passed t) (count w t) (count (effect w r c) t) (cd.base.marks t).phase (λ o u f. same t o) (cd.slots t)))
      ]

  abbrev SpentStep : Counts → World → ℕ → AdminCommand → AdminReply → List PlanCommand → Option (List Key) → ℕ → Type 0
  SpentStep κ w r c reply rest listed spent = Counted (counts_after κ w (Admin r c reply)) (admin_after w r c) rest listed (1 + spent) ⊎ ((is_refused reply ≡ true) × (1 + spent ≤ cost none_passed κ whole))

  granted_step : (κ' : Counts) (w : World) (r : ℕ) (c : AdminCommand) (rest : List PlanCommand) (listed : Option (List Key)) (spent : ℕ) → admin_fault w r c ≡ None → Counted κ' (effect w r c) rest listed spent → Counted κ' (admin_after w r c) rest listed spent
  granted_step κ' w r c rest listed spent e h = subst (λ x. Counted κ' x rest listed spent) (sym (after_admin n goal w r c e)) h

  -- a SETSLOT that is granted: o is the command, which costs one call
  setslot_counted : (κ κ' : Counts) (w : World) (plan : List PlanCommand) (spent r s : ℕ) (o : PlanCommand) (c : AdminCommand) (cd : Counted κ w (o ∷ plan) None spent)
      → ((p : ℕ → ℕ) (x : Counts) → cost p x (o ∷ plan) ≡ 1 + cost p x plan) → due cd.passed κ w (o ∷ plan) None ≡ 1 + cost cd.passed κ plan
      → (calm : Calm n goal w (o ∷ plan) plan None None cd.base r c s false) → NewCount (κ s) (κ' s) (count w s) r c → ((t : ℕ) → t ≢ s → κ' t ≡ κ t) → Grows κ κ' → Counted κ' (admin_after w r c) plan None (1 + spent)
  setslot_counted κ κ' w plan spent r s o c cd one owed calm new others grow = granted_step κ' w r c plan None (1 + spent) calm.no_fault
      (calm_counted κ κ' w (o ∷ plan) plan None None spent r s c false cd calm new others cd.passed refl (λ t e. refl) (λ x. cd.behind x + 1)
      (λ x. let e : cost none_passed x whole ≡ cd.behind x + cost cd.passed x (o ∷ plan) = cd.splits x in let f : cost cd.passed x (o ∷ plan) ≡ 1 + cost cd.passed x plan = one cd.passed x in omega arith)
      (λ x y g. let e : cd.behind x ≤ cd.behind y = cd.grows x y g in omega arith)
      (λ slots. let d : due cd.passed κ' (effect w r c) plan None ≤ cost cd.passed κ' plan = due_le cd.passed κ' (effect w r c) plan calm.next.0 slots in
      let p : spent + due cd.passed κ w (o ∷ plan) None ≤ cd.behind κ + cost cd.passed κ (o ∷ plan) = cd.paid in
      let f : cost cd.passed κ (o ∷ plan) ≡ 1 + cost cd.passed κ plan = one cd.passed κ in
      let e : cd.behind κ ≤ cd.behind κ' = cd.grows κ κ' grow in
      omega (arith, owed)))

  import_counted : (κ : Counts) (w : World) (plan : List PlanCommand) (spent s m at : ℕ) (reply : AdminReply) → Counted κ w (planned.Importing s m at ∷ plan) None spent → SpentStep κ w at (command.Importing s m) reply plan None spent
  import_counted κ w plan spent s m at reply c = inl (setslot_counted κ κ w plan spent at s (planned.Importing s m at) (command.Importing s m) c (λ p x. refl) refl (import_step n goal w plan s m at c.base) refl (λ t e. refl) (grows_same κ))

  tell_counted : (κ : Counts) (w : World) (plan : List PlanCommand) (spent s m at : ℕ) (reply : AdminReply) → Counted κ w (planned.SetNode s m at ∷ plan) None spent → SpentStep κ w at (command.SetNode s m) reply plan None spent
  tell_counted κ w plan spent s m at reply c = inl (setslot_counted κ κ w plan spent at s (planned.SetNode s m at) (command.SetNode s m) c (λ p x. refl) refl (tell_step n goal w plan s m at c.base) refl (λ t e. refl) (grows_same κ))

  stable_counted : (κ : Counts) (w : World) (plan : List PlanCommand) (spent s at : ℕ) (reply : AdminReply) → Counted κ w (planned.Stable s at ∷ plan) None spent → SpentStep κ w at (command.Stable s) reply plan None spent
  stable_counted κ w plan spent s at reply c = inl (setslot_counted κ κ w plan spent at s (planned.Stable s at) (command.Stable s) c (λ p x. refl) refl (stable_step n goal w plan s at c.base) refl (λ t e. refl) (grows_same κ))

  pub fine_reply : (w : World) (r s t : ℕ) → admin_fault w r (command.Migrating s t) ≡ None → admin_reply w r (command.Migrating s t) ≡ answers.Ok
  unfolding admin_reply reply_if_accepted
  fine_reply w r s t e = ap (λ o. reply_or o answers.Ok) e

  send_counted : (κ : Counts) (w : World) (plan : List PlanCommand) (spent s m at : ℕ) → Counted κ w (planned.Migrating s m at ∷ plan) None spent → SpentStep κ w at (command.Migrating s m) answers.Ok plan None spent
  send_counted κ w plan spent s m at c =
      let κ' : Counts = counts_after κ w (Admin at (command.Migrating s m) answers.Ok) in
      inl (setslot_counted κ κ' w plan spent at s (planned.Migrating s m at) (command.Migrating s m) c (λ p x. refl) refl (send_step n goal w plan s m at c.base) (cond-true _ _ _ (eq-eqb s s refl)) (λ t e. cond-false _ _ _ (ne_eqb t s e))
      (λ t i. grown (eqb t s) t i))
    where
      grown : (b : Bool) (t i : ℕ) → slice_index (κ t) i ≤ slice_index (cond b (κ t ++ count w s at ∷ []) (κ t)) i
      grown true t i = grow_append (κ t) (count w s at) i
      grown false t i = omega arith

  drained_counted : (κ : Counts) (w : World) (plan : List PlanCommand) (spent s o t b : ℕ) (reply : AdminReply) → Counted κ w (planned.Drain s o t b ∷ plan) None spent → ListsSlot (node_at w o).held s b [] → SpentStep κ w o (command.KeysIn s b) reply plan None spent
  drained_counted κ w plan spent s o t b reply c none =
      let calm = list_none_step n goal w plan s o t b c.base none in
      inl (granted_step κ w o (command.KeysIn s b) plan None (1 + spent) calm.no_fault
      (calm_counted κ κ w (planned.Drain s o t b ∷ plan) plan None None spent o s (command.KeysIn s b) true c calm refl (λ t e. refl) (one_more c.passed s) (one_here c.passed s) (λ t e. one_other c.passed s t e)
      (λ x. c.behind x + (2 * rounds b (slice_index (x s) (c.passed s)) + 1))
      (λ x. let e : cost none_passed x whole ≡ c.behind x + ((2 * rounds b (slice_index (x s) (c.passed s)) + 1) + cost (one_more c.passed s) x plan) = c.splits x in omega arith)
      (λ x y g. let e : c.behind x ≤ c.behind y = c.grows x y g in let f : rounds b (slice_index (x s) (c.passed s)) ≤ rounds b (slice_index (y s) (c.passed s)) = rounds_grow b _ _ (g s (c.passed s)) in omega arith)
      (λ slots. let d : due (one_more c.passed s) κ (effect w o (command.KeysIn s b)) plan None ≤ cost (one_more c.passed s) κ plan = due_le (one_more c.passed s) κ (effect w o (command.KeysIn s b)) plan calm.next.0 slots in
      let p : spent + ((2 * rounds b (count w s o) + 1) + cost (one_more c.passed s) κ plan) ≤ c.behind κ + ((2 * rounds b (slice_index (κ s) (c.passed s)) + 1) + cost (one_more c.passed s) κ plan) = c.paid in
      omega arith)))

  some_counted : (κ : Counts) (w : World) (plan : List PlanCommand) (spent s o t b : ℕ) (k : Key) (ks : List Key) (reply : AdminReply) → Counted κ w (planned.Drain s o t b ∷ plan) None spent → ListsSlot (node_at w o).held s b (k ∷ ks)
      → SpentStep κ w o (command.KeysIn s b) reply (planned.Drain s o t b ∷ plan) (Some (k ∷ ks)) spent
  unfolding effect
  some_counted κ w plan spent s o t b k ks reply c some =
      let calm = list_some_step n goal w plan s o t b k ks c.base some in
      let turn = drain_turn n goal w plan s o t b None c.base w in
      let left : length (left_of (node_at w o).held s (k ∷ ks)) ≡ count w s o - b = left_exact (node_at w o).held s b (k ∷ ks) some in
      let step : rounds b (length (left_of (node_at w o).held s (k ∷ ks))) + 1 ≤ rounds b (count w s o) = rounds_step b (count w s o) _ turn.2.some (some_by_listing (node_at w o).held s b k ks some) (omega arith) in
      inl (granted_step κ w o (command.KeysIn s b) (planned.Drain s o t b ∷ plan) (Some (k ∷ ks)) (1 + spent) calm.no_fault
      (calm_counted κ κ w (planned.Drain s o t b ∷ plan) (planned.Drain s o t b ∷ plan) None (Some (k ∷ ks)) spent o s (command.KeysIn s b) false c calm refl (λ t e. refl) c.passed refl (λ t e. refl) c.behind c.splits c.grows
      (λ slots. let p = c.paid in pays step p)))
    where
      pays : rounds b (length (left_of (node_at w o).held s (k ∷ ks))) + 1 ≤ rounds b (count w s o) → spent + ((2 * rounds b (count w s o) + 1) + cost (one_more c.passed s) κ plan) ≤ c.behind κ + cost c.passed κ (planned.Drain s o t b ∷ plan)
          → 1 + spent + due c.passed κ (effect w o (command.KeysIn s b)) (planned.Drain s o t b ∷ plan) (Some (k ∷ ks)) ≤ c.behind κ + cost c.passed κ (planned.Drain s o t b ∷ plan)
      pays step p = omega arith

  pub refused_by : (w : World) (r : ℕ) (c : AdminCommand) (reply : AdminReply) → reply ≡ admin_reply w r c → is_some (admin_fault w r c) ≡ true → is_refused reply ≡ true
  unfolding admin_reply
  refused_by w r c reply e f = ap is_refused e ∙ by (admin_fault w r c) f
    where
      by : (o : Option AdminFault) → is_some o ≡ true → is_refused (reply_or o (reply_if_accepted (node_at w r) c)) ≡ true
      by None g = absurd (true≢false (sym g))
      by (Some k) g = refl

  batch_counted : (κ : Counts) (w : World) (plan : List PlanCommand) (spent s o t b : ℕ) (ks : List Key) (reply : AdminReply) → reply ≡ admin_reply w o (command.Migrate ks t) → Counted κ w (planned.Drain s o t b ∷ plan) (Some ks) spent
      → SpentStep κ w o (command.Migrate ks t) reply (planned.Drain s o t b ∷ plan) None spent
  batch_counted κ w plan spent s o t b ks reply e c = elim (cases_Bool (is_some (admin_fault w o (command.Migrate ks t)))) [
    | inl u ↦ inr (
      refused_by w o (command.Migrate ks t) reply e u,
      (let d : cost none_passed κ whole ≡ c.behind κ + cost c.passed κ (planned.Drain s o t b ∷ plan) = c.splits κ in let p = c.paid in omega arith),
    )
    | inr u ↦ inl (granted_step κ w o (command.Migrate ks t) (planned.Drain s o t b ∷ plan) None (1 + spent) (none_fault _ u) (record {
      base = batch.next.0;
      passed = c.passed;
      slots = λ v. elim (cases_eq v s) [
        | inl f ↦ subst (λ x. CountOk (κ x) (c.passed x) (count next x) (batch.next.0.marks x).phase) (sym f) (subst (λ p. CountOk (κ s) (c.passed s) (count next s) p) (sym batch.next.2)
            (let before : CountOk (κ s) (c.passed s) (count w s) (Migrating o t) = subst (λ p. CountOk (κ s) (c.passed s) (count w s) p) batch.was (c.slots s) in (before.0, less before.1)))
        | inr f ↦ subst (λ p. CountOk (κ v) (c.passed v) (count next v) p) (sym (batch.next.1 v f))
            (count_kept (κ v) (c.passed v) (count w v) (count next v) (c.base.marks v).phase (λ x y g. count_le (node_at w x).held (node_at next x).held v (λ k i h. batch.others x k (λ j. f (sym i ∙ j)) ∙ h)) (c.slots v))
      ];
      behind = c.behind;
      splits = c.splits;
      grows = c.grows;
      paid = (let p = c.paid in let l : rounds b (count next s o) ≤ rounds b (length (left_of (node_at w o).held s ks)) = rounds_grow b _ _ (left_after_batch (node_at w o).held (node_at next o).held s ks batch.at_source) in omega arith);
    }))
  ]
    where
      batch : Batch n goal w plan s o t b ks c.base
      batch = migrate_step n goal w plan s o t b ks c.base

      next : World
      next = effect w o (command.Migrate ks t)

      gone : (x : Bool) (v : Option Value) → v ≡ None → cond x None v ≡ None
      gone true v p = refl
      gone false v p = p

      less : count w s o ≤ slice_index (κ s) (c.passed s) → count next s o ≤ slice_index (κ s) (c.passed s)
      less before = let l : count next s o ≤ count w s o = count_le (node_at w o).held (node_at next o).held s (λ k i h. batch.at_source k ∙ gone (is_named k ks) (held w o k) h) in omega arith

  spent_over : (κ : Counts) (w : World) (reply : AdminReply) (spent r r' : ℕ) (c c' : AdminCommand) (rest rest' : List PlanCommand) (listed listed' : Option (List Key))
      → r ≡ r' → c ≡ c' → rest ≡ rest' → listed ≡ listed' → SpentStep κ w r' c' reply rest' listed' spent → SpentStep κ w r c reply rest listed spent
  spent_over κ w reply spent r r' c c' rest rest' listed listed' p q t u h =
      subst (λ a. SpentStep κ w a c reply rest listed spent) (sym p) (subst (λ a. SpentStep κ w r' a reply rest listed spent) (sym q) (subst (λ a. SpentStep κ w r' c' reply a listed spent) (sym t) (subst (λ a. SpentStep κ w r' c' reply rest' a spent) (sym u) h)))

  spelled_counted : (κ : Counts) (w : World) (plan : List PlanCommand) (listed : Option (List Key)) (r : ℕ) (c : AdminCommand) (reply : AdminReply) (rest : List PlanCommand) (listed' : Option (List Key)) (spent : ℕ)
      → Counted κ w plan listed spent → MayReply w r c reply → Spells (remaining plan listed) (called r c reply) (remaining rest listed') → SpentStep κ w r c reply rest listed' spent
  spelled_counted κ w [] listed r c reply rest listed' spent cd e h = absurd h
  spelled_counted κ w (planned.Importing s m at ∷ plan) None r c reply rest listed' spent cd e h = spent_over κ w reply spent r at c (command.Importing s m) rest plan listed' None h.0 h.1 h.2 h.3 (import_counted κ w plan spent s m at reply cd)
  spelled_counted κ w (planned.Importing s m at ∷ plan) (Some ks) r c reply rest listed' spent cd e h = absurd h
  spelled_counted κ w (planned.Migrating s m at ∷ plan) None r c reply rest listed' spent cd e h = spent_over κ w reply spent r at c (command.Migrating s m) rest plan listed' None h.0 h.1 h.2 h.3
      (subst (λ a. SpentStep κ w at (command.Migrating s m) a plan None spent) (sym (subst₂ (λ x y. MayReply w x y reply) h.0 h.1 e ∙ fine_reply w at s m (send_step n goal w plan s m at cd.base).no_fault)) (send_counted κ w plan spent s m at cd))
  spelled_counted κ w (planned.Migrating s m at ∷ plan) (Some ks) r c reply rest listed' spent cd e h = absurd h
  spelled_counted κ w (planned.SetNode s m at ∷ plan) None r c reply rest listed' spent cd e h = spent_over κ w reply spent r at c (command.SetNode s m) rest plan listed' None h.0 h.1 h.2 h.3 (tell_counted κ w plan spent s m at reply cd)
  spelled_counted κ w (planned.SetNode s m at ∷ plan) (Some ks) r c reply rest listed' spent cd e h = absurd h
  spelled_counted κ w (planned.Stable s at ∷ plan) None r c reply rest listed' spent cd e h = spent_over κ w reply spent r at c (command.Stable s) rest plan listed' None h.0 h.1 h.2 h.3 (stable_counted κ w plan spent s at reply cd)
  spelled_counted κ w (planned.Stable s at ∷ plan) (Some ks) r c reply rest listed' spent cd e h = absurd h
  spelled_counted κ w (planned.Drain s m t b ∷ plan) None r c reply rest listed' spent cd e h = elim h.2 [
    | inl u ↦ spent_over κ w reply spent r m c (command.KeysIn s b) rest plan listed' None h.0 h.1 u.1 u.2 (drained_counted κ w plan spent s m t b reply cd (listing_keys w r m s b c reply [] h.0 h.1 e u.0))
    | inr u ↦ spent_over κ w reply spent r m c (command.KeysIn s b) rest (planned.Drain s m t b ∷ plan) listed' (Some (u.0 ∷ u.1)) h.0 h.1 u.3 u.4
        (some_counted κ w plan spent s m t b u.0 u.1 reply cd (listing_keys w r m s b c reply (u.0 ∷ u.1) h.0 h.1 e u.2))
  ]
  spelled_counted κ w (planned.Drain s m t b ∷ plan) (Some ks) r c reply rest listed' spent cd e h = spent_over κ w reply spent r m c (command.Migrate ks t) rest (planned.Drain s m t b ∷ plan) listed' None h.0 h.1 h.2 h.3
      (batch_counted κ w plan spent s m t b ks reply (subst₂ (λ x y. MayReply w x y reply) h.0 h.1 e) cd)

  -- where the administrator does not call, nothing is counted
  quiet_counts : (κ : Counts) (w : World) (es : List Event) → calls es ≡ [] → counts κ w es ≡ κ
  quiet_counts κ w [] h = refl
  quiet_counts κ w (Client seat x asking c reply ∷ es) h = quiet_counts κ (after w (Client seat x asking c reply)) es h
  quiet_counts κ w (Look seat x reply ∷ es) h = quiet_counts κ w es h
  quiet_counts κ w (Admin r c reply ∷ es) h = cc

  -- a refused command counts nothing
  refused_counts : (κ : Counts) (w : World) (r : ℕ) (c : AdminCommand) (reply : AdminReply) → is_refused reply ≡ true → counts_after κ w (Admin r c reply) ≡ κ
  refused_counts κ w r (command.Migrating s m) answers.Ok e = absurd (true≢false (sym e))
  refused_counts κ w r (command.Migrating s m) answers.NoKey e = refl
  refused_counts κ w r (command.Migrating s m) (answers.Keys ks) e = refl
  refused_counts κ w r (command.Migrating s m) (answers.Refused k) e = refl
  refused_counts κ w r (command.Importing s m) reply e = refl
  refused_counts κ w r (command.SetNode s m) reply e = refl
  refused_counts κ w r (command.Stable s) reply e = refl
  refused_counts κ w r (command.KeysIn s m) reply e = refl
  refused_counts κ w r (command.Migrate ks m) reply e = refl

  pub run_counted : (es : List Event) (κ : Counts) (w last : World) (plan rest : List PlanCommand) (listed listed' : Option (List Key)) (spent : ℕ) → Counted κ w plan listed spent → ServerRun w es last → Spelled (remaining plan listed) (calls es) (remaining rest listed')
      → StopsAtRefusal (calls es) → length (calls es) + spent ≤ cost none_passed (counts κ w es) whole
  run_counted [] κ w last plan rest listed listed' spent cd run spelt stops = let b : spent ≤ cost none_passed κ whole = bound κ w plan listed spent cd in omega arith
  run_counted (Client seat x asking c reply ∷ es) κ w last plan rest listed listed' spent cd run spelt stops =
      let new = client_base n goal w plan listed seat x asking c reply cd.base run.0 in
      run_counted es κ (after w (Client seat x asking c reply)) last plan rest listed listed' spent
      (client_counted κ w (after w (Client seat x asking c reply)) plan listed spent cd new.0 new.1 (client_gain n goal w plan listed seat x asking c reply cd.base run.0)) run.1 spelt stops
  run_counted (Look seat x reply ∷ es) κ w last plan rest listed listed' spent cd run spelt stops = run_counted es κ w last plan rest listed listed' spent cd run.1 spelt stops
  run_counted (Admin r c reply ∷ es) κ w last plan rest listed listed' spent cd run spelt stops =
      elim (spelled_counted κ w plan listed r c reply spelt.0.rest spelt.0.listed spent cd run.0.1 spelt.1) [
        | inl u ↦ (let g : length (calls es) + (1 + spent) ≤ cost none_passed (counts (counts_after κ w (Admin r c reply)) (admin_after w r c) es) whole =
            run_counted es (counts_after κ w (Admin r c reply)) (admin_after w r c) last spelt.0.rest rest spelt.0.listed listed' (1 + spent) u run.1 spelt.2 stops.1 in omega arith)
        | inr u ↦ (let quiet : calls es ≡ [] = stops.0 u.0 in
            let none : length (calls es) ≡ 0 = ap length quiet in
            let same : counts (counts_after κ w (Admin r c reply)) (admin_after w r c) es ≡ κ = quiet_counts _ _ es quiet ∙ refused_counts κ w r c reply u.0 in
            subst (λ k. suc (length (calls es)) + spent ≤ cost none_passed k whole) (sym same) (let q = u.1 in omega arith))
      ]

-- ---- the law

module _ (n goal s : ℕ) (w : World) where
  -- the counts with which a plan begins
  pub first_ok : (q : Phase) (rest : List PlanCommand) → Rest n goal s q rest → CountOk (first_count w rest) 0 (count w s) q
  first_ok (Closed o) rest l = by l.goes_on.legs l.goes_on.is
    where
      by : (legs : List Leg) → rest ≡ legs_of s o legs → length (first_count w rest) ≡ 0
      by [] e = ap (λ x. length (first_count w x)) e
      by (Move t b others ∷ legs) e = ap (λ x. length (first_count w x)) e
      by (Try t ∷ legs) e = ap (λ x. length (first_count w x)) e
  first_ok (Importing o t) rest (inl l) = ap (λ x. length (first_count w x)) l.is
  first_ok (Importing o t) rest (inr l) = ap (λ x. length (first_count w x)) l.is
  first_ok (Migrating o t) rest l = subst (λ x. CountOk (first_count w x) 0 (count w s) (Migrating o t)) (sym l.is) (refl, omega arith)
  first_ok (Drained o t) rest l = ap (λ x. length (first_count w x)) l.is
  first_ok (TargetTold o t) rest l = ap (λ x. length (first_count w x)) l.is
  first_ok (SourceTold o t []) rest l = absurd (l.some refl)
  first_ok (SourceTold o t (m ∷ left)) rest l = ap (λ x. length (first_count w x)) l.is

pub within_its_cost : ServersWithinCost
within_its_cost reshard events last left run =
    let n : ℕ = length reshard.first.nodes in
    let κ : Counts = first_counts reshard.first reshard.plan in
    let begun : Base n (final_owner reshard.plan reshard.phases) reshard.first reshard.plan None = first_base reshard events last left run in
    let slots : (s : ℕ) → CountOk (κ s) 0 (count reshard.first s) (begun.marks s).phase = λ s. first_ok n (final_owner reshard.plan reshard.phases s) s reshard.first (begun.marks s).phase (part reshard.plan s) (begun.marks s).left in
    let c : Counted n (final_owner reshard.plan reshard.phases) reshard.plan κ reshard.first reshard.plan None 0 = record {
      base = begun;
      passed = none_passed;
      slots = slots;
      behind = λ x. 0;
      splits = λ x. omega arith;
      grows = λ x y g. omega arith;
      paid = (let d : due none_passed κ reshard.first reshard.plan None ≤ cost none_passed κ reshard.plan = due_le n (final_owner reshard.plan reshard.phases) reshard.plan none_passed κ reshard.first reshard.plan begun slots in omega arith);
    } in
    let g : length (calls events) + 0 ≤ cost none_passed (counts κ reshard.first events) reshard.plan = run_counted n (final_owner reshard.plan reshard.phases) reshard.plan events κ reshard.first last reshard.plan left.rest None left.listed 0 c run.run run.driven.0 run.driven.1 in
    omega arith
