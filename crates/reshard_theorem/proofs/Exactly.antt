-- Where no client comes between the commands of a plan, it takes exactly its cost.
use Rattle.std.proofs.Common.{◌≡◌, ◌≢◌, ℕ, suc, ◌+◌, ◌-◌, ◌*◌, ◌<◌, ◌≤◌, Bool, true, false, cond, eqb, List, [], ◌∷◌, ◌++◌, length, Option, Some, None, sym, refl, ap, ◌∙◌, subst, subst₂, arith, inl, inr, div-lt_iff_lt-mul}
use Rattle.std.specs.Prelude.{slice_index}
use Rattle.std.proofs.Math.ListN.{get_or-append}
use Rattle.std.proofs.lemmas.Bool.{cases_eq, ne_eqb, eq-eqb, eqb-false, cond-true, cond-false}
use Rattle.store_commands.specs.Store.{Key, Store}
use Rattle.cluster_admin.specs.declared.admin.AdminReply.{AdminReply}
use Rattle.cluster_admin.specs.declared.admin.AdminReply.TheVariants as answers
use Rattle.cluster_world.specs.Worlds.{World, node_at}
use Rattle.cluster_admin.specs.declared.admin.AdminCommand.{AdminCommand}
use Rattle.cluster_admin.specs.declared.admin.AdminCommand.TheVariants as command
use Rattle.cluster_world.specs.Commanding.{effect}
use Rattle.cluster_world.specs.Steps.{after}
use Rattle.cluster_world.specs.declared.event.Event.{Event}
use Rattle.cluster_world.specs.declared.event.Event.TheVariants.{Client, Look, Admin}
use Rattle.plan_language.specs.declared.plan_command.PlanCommand.{PlanCommand}
use Rattle.plan_language.specs.declared.plan_command.PlanCommand.TheVariants as planned
use Rattle.plan_semantics.specs.Driving.{remaining, called, Spells, Spelled}
use Rattle.cluster_world.specs.AdminCalls.{calls}
use Rattle.reshard_theorem.specs.QuietRuns.{NoClients}
use Rattle.plan_semantics.specs.Costs.{rounds, Counts, one_more, cost, none_passed}
use Rattle.reshard_theorem.specs.Counts.{counts_after, counts}
use Rattle.reshard_theorem.proofs.Phases.{Phase, Closed, Importing, Migrating, Drained, TargetTold, SourceTold, CountOk, Fresh}
use Rattle.reshard_theorem.proofs.Base.{Base, Inv}
use Rattle.reshard_theorem.proofs.Admins.{Calm, Batch, NewCount, AdminGood, drain_turn, import_step, send_step, list_none_step, list_none_later, list_some_step, list_some_phase, migrate_step, tell_step, stable_step, passed_on}
use Rattle.reshard_theorem.proofs.Whole.{after_admin, spelled}
use Rattle.reshard_theorem.proofs.Servers.{listing_keys}
use Rattle.cluster_world.specs.Servers.{ListsSlot, MayReply, ServerRun}
use Rattle.reshard_theorem.proofs.Counting.{fewer_left, count_same, left_of, left_exact, none_by_listing, some_by_listing, left_by_batch, rounds_whole}
use Rattle.reshard_theorem.proofs.Spending.{count, due, one_here, one_other, fine_reply}

-- the drain of the slot is in front, so it may have begun
abbrev pub drains : List PlanCommand → ℕ → Bool
drains [] t = false
drains (planned.Importing s m at ∷ rest) t = false
drains (planned.Migrating s m at ∷ rest) t = false
drains (planned.SetNode s m at ∷ rest) t = false
drains (planned.Stable s at ∷ rest) t = false
drains (planned.Drain s o u b ∷ rest) t = eqb s t

count_over : (ks : List ℕ) (i : ℕ) (h h' : ℕ → ℕ) (p : Phase) → ((o : ℕ) → h' o ≡ h o) → CountOk ks i h p → CountOk ks i h' p
count_over ks i h h' (Closed o) same g = g
count_over ks i h h' (Importing o t) same g = g
count_over ks i h h' (Migrating o t) same g = (g.0, subst (λ x. x ≤ slice_index ks i) (sym (same o)) g.1)
count_over ks i h h' (Drained o t) same g = g
count_over ks i h h' (TargetTold o t) same g = g
count_over ks i h h' (SourceTold o t left) same g = g

fresh_over : (ks : List ℕ) (i : ℕ) (h h' : ℕ → ℕ) (p : Phase) → ((o : ℕ) → h' o ≡ h o) → Fresh ks i h p → Fresh ks i h' p
fresh_over ks i h h' (Closed o) same g = g
fresh_over ks i h h' (Importing o t) same g = g
fresh_over ks i h h' (Migrating o t) same g = same o ∙ g
fresh_over ks i h h' (Drained o t) same g = g
fresh_over ks i h h' (TargetTold o t) same g = g
fresh_over ks i h h' (SourceTold o t left) same g = g

-- no more drains are after than counts are there
pub len_ok : (ks : List ℕ) (i : ℕ) (h : ℕ → ℕ) (p : Phase) → CountOk ks i h p → i ≤ length ks
len_ok ks i h (Closed o) g = omega (arith, g)
len_ok ks i h (Importing o t) g = omega (arith, g)
len_ok ks i h (Migrating o t) g = let e = g.0 in omega (arith, e)
len_ok ks i h (Drained o t) g = omega (arith, g)
len_ok ks i h (TargetTold o t) g = omega (arith, g)
len_ok ks i h (SourceTold o t left) g = omega (arith, g)

-- the same counts of drains that are after
abbrev pub Agrees : (ℕ → ℕ) → Counts → Counts → Type 0
Agrees passed x y = (s i : ℕ) → i < passed s → slice_index (x s) i ≡ slice_index (y s) i

module _ (n : ℕ) (goal : ℕ → ℕ) (whole : List PlanCommand) where
  abbrev pub AreCounted : (κ : Counts) (passed : ℕ → ℕ) (w : World) (rest : List PlanCommand) (listed : Option (List Key)) → Base n goal w rest listed → Type 0
  AreCounted κ passed w rest listed b = (s : ℕ) → CountOk (κ s) (passed s) (count w s) (b.marks s).phase

  abbrev pub AreFresh : (κ : Counts) (passed : ℕ → ℕ) (w : World) (rest : List PlanCommand) (listed : Option (List Key)) → Base n goal w rest listed → Type 0
  AreFresh κ passed w rest listed b = (s : ℕ) → Fresh (κ s) (passed s) (count w s) (b.marks s).phase

  pub record Exactly (κ : Counts) (w : World) (rest : List PlanCommand) (listed : Option (List Key)) (spent : ℕ) : Type 0 where
    pub base : Base n goal w rest listed
    pub passed : ℕ → ℕ
    pub slots : AreCounted κ passed w rest listed base
    pub fresh : (s : ℕ) → drains rest s ≡ false → Fresh (κ s) (passed s) (count w s) (base.marks s).phase
    pub behind : Counts → ℕ
    pub splits : (x : Counts) → cost none_passed x whole ≡ behind x + cost passed x rest
    pub kept : (x y : Counts) → Agrees passed x y → behind x ≡ behind y
    pub paid : spent + due passed κ w rest listed ≡ behind κ + cost passed κ rest

  pub due_fresh : (κ : Counts) (p : ℕ → ℕ) (w : World) (rest : List PlanCommand) (b : Base n goal w rest None) → AreFresh κ p w rest None b → due p κ w rest None ≡ cost p κ rest
  due_fresh κ p w [] b fresh = refl
  due_fresh κ p w (planned.Importing s m at ∷ rest) b fresh = refl
  due_fresh κ p w (planned.Migrating s m at ∷ rest) b fresh = refl
  due_fresh κ p w (planned.SetNode s m at ∷ rest) b fresh = refl
  due_fresh κ p w (planned.Stable s at ∷ rest) b fresh = refl
  due_fresh κ p w (planned.Drain s o t d ∷ rest) b fresh =
      let turn = drain_turn n goal w rest s o t d None b w in
      let here : count w s o ≡ slice_index (κ s) (p s) = subst (Fresh (κ s) (p s) (count w s)) (sym turn.1 ∙ turn.2.was) (fresh s) in
      ap (λ k. (2 * rounds d k + 1) + cost (one_more p s) κ rest) here

  -- a command that is done: every slot is fresh after it
  done : (κ κ' : Counts) (w next : World) (o : PlanCommand) (rest : List PlanCommand) (spent : ℕ) (passed' : ℕ → ℕ) (new : Base n goal next rest None)
      → AreCounted κ' passed' next rest None new → AreFresh κ' passed' next rest None new
      → (behind' : Counts → ℕ) → ((x : Counts) → cost none_passed x whole ≡ behind' x + cost passed' x rest) → ((x y : Counts) → Agrees passed' x y → behind' x ≡ behind' y)
      → 1 + spent ≡ behind' κ' → Exactly κ' next rest None (1 + spent)
  done κ κ' w next o rest spent passed' new slots fresh behind' splits' kept' even = record {
    base = new;
    passed = passed';
    slots = slots;
    fresh = λ s e. fresh s;
    behind = behind';
    splits = splits';
    kept = kept';
    paid = let d : due passed' κ' next rest None ≡ cost passed' κ' rest = due_fresh κ' passed' next rest new fresh in omega (arith, d, even);
  }

  module _ (κ κ' : Counts) (w : World) (plan rest : List PlanCommand) (spent r s : ℕ) (c : AdminCommand) (passes : Bool) (e : Exactly κ w plan None spent)
      (calm : Calm n goal w plan rest None None e.base r c s passes) (new : NewCount (κ s) (κ' s) (count w s) r c) (others : (t : ℕ) → t ≢ s → κ' t ≡ κ t)
      (passed' : ℕ → ℕ) (here : passed' s ≡ passed_on passes (e.passed s)) (there : (t : ℕ) → t ≢ s → passed' t ≡ e.passed t) where
    same : (t o : ℕ) → count (effect w r c) t o ≡ count w t o
    same t o = count_same (node_at w o).held (node_at (effect w r c) o).held t (λ k i. calm.same o k)

    before : CountOk (κ s) (e.passed s) (count w s) calm.before
    before = subst (λ p. CountOk (κ s) (e.passed s) (count w s) p) calm.was (e.slots s)

    calm_slots : AreCounted κ' passed' (effect w r c) rest None calm.next.0
    calm_slots t = elim (cases_eq t s) [
      | inl f ↦ subst (λ u. CountOk (κ' u) (passed' u) (count (effect w r c) u) (calm.next.0.marks u).phase) (sym f)
          (subst (λ p. CountOk (κ' s) (passed' s) (count (effect w r c) s) p) (sym calm.next.2) (count_over (κ' s) (passed' s) (count w s) (count (effect w r c) s) calm.later (same s)
          (subst (λ i. CountOk (κ' s) i (count w s) calm.later) (sym here) (calm.counted (κ s) (κ' s) (e.passed s) (count w s) new before))))
      | inr f ↦ subst₂ (λ k p. CountOk k (passed' t) (count (effect w r c) t) p) (sym (others t f)) (sym (calm.next.1 t f))
          (subst (λ i. CountOk (κ t) i (count (effect w r c) t) (e.base.marks t).phase) (sym (there t f)) (count_over (κ t) (e.passed t) (count w t) (count (effect w r c) t) (e.base.marks t).phase (same t) (e.slots t)))
    ]

    calm_fresh : Fresh (κ' s) (passed_on passes (e.passed s)) (count w s) calm.later → ((t : ℕ) → t ≢ s → drains plan t ≡ false) → AreFresh κ' passed' (effect w r c) rest None calm.next.0
    calm_fresh at none t = elim (cases_eq t s) [
      | inl f ↦ subst (λ u. Fresh (κ' u) (passed' u) (count (effect w r c) u) (calm.next.0.marks u).phase) (sym f)
          (subst (λ p. Fresh (κ' s) (passed' s) (count (effect w r c) s) p) (sym calm.next.2) (fresh_over (κ' s) (passed' s) (count w s) (count (effect w r c) s) calm.later (same s)
          (subst (λ i. Fresh (κ' s) i (count w s) calm.later) (sym here) at)))
      | inr f ↦ subst₂ (λ k p. Fresh k (passed' t) (count (effect w r c) t) p) (sym (others t f)) (sym (calm.next.1 t f))
          (subst (λ i. Fresh (κ t) i (count (effect w r c) t) (e.base.marks t).phase) (sym (there t f)) (fresh_over (κ t) (e.passed t) (count w t) (count (effect w r c) t) (e.base.marks t).phase (same t) (e.fresh t (none t f))))
    ]

  -- a SETSLOT: o is the command
  setslot_exact : (κ κ' : Counts) (w : World) (plan : List PlanCommand) (spent r s : ℕ) (o : PlanCommand) (c : AdminCommand) (e : Exactly κ w (o ∷ plan) None spent)
      → ((p : ℕ → ℕ) (x : Counts) → cost p x (o ∷ plan) ≡ 1 + cost p x plan) → due e.passed κ w (o ∷ plan) None ≡ 1 + cost e.passed κ plan → ((t : ℕ) → drains (o ∷ plan) t ≡ false)
      → (calm : Calm n goal w (o ∷ plan) plan None None e.base r c s false) → NewCount (κ s) (κ' s) (count w s) r c → ((t : ℕ) → t ≢ s → κ' t ≡ κ t) → Agrees e.passed κ κ' → Exactly κ' (effect w r c) plan None (1 + spent)
  setslot_exact κ κ' w plan spent r s o c e one owed none calm new others agree = done κ κ' w (effect w r c) o plan spent e.passed calm.next.0
      (calm_slots κ κ' w (o ∷ plan) plan spent r s c false e calm new others e.passed refl (λ t f. refl))
      (calm_fresh κ κ' w (o ∷ plan) plan spent r s c false e calm new others e.passed refl (λ t f. refl)
      (calm.exact (κ s) (κ' s) (e.passed s) (count w s) new (subst (λ p. CountOk (κ s) (e.passed s) (count w s) p) calm.was (e.slots s)) (subst (λ p. Fresh (κ s) (e.passed s) (count w s) p) calm.was (e.fresh s (none s)))) (λ t f. none t))
      (λ x. e.behind x + 1)
      (λ x. let a : cost none_passed x whole ≡ e.behind x + cost e.passed x (o ∷ plan) = e.splits x in let b : cost e.passed x (o ∷ plan) ≡ 1 + cost e.passed x plan = one e.passed x in omega arith)
      (λ x y g. ap (λ z. z + 1) (e.kept x y g))
      (let p : spent + due e.passed κ w (o ∷ plan) None ≡ e.behind κ + cost e.passed κ (o ∷ plan) = e.paid in
      let b : cost e.passed κ (o ∷ plan) ≡ 1 + cost e.passed κ plan = one e.passed κ in
      let k : e.behind κ ≡ e.behind κ' = e.kept κ κ' agree in
      omega (arith, owed))

  send_exact : (κ : Counts) (w : World) (plan : List PlanCommand) (spent s m at : ℕ) → Exactly κ w (planned.Migrating s m at ∷ plan) None spent
      → Exactly (counts_after κ w (Admin at (command.Migrating s m) answers.Ok)) (effect w at (command.Migrating s m)) plan None (1 + spent)
  send_exact κ w plan spent s m at e =
      setslot_exact κ (counts_after κ w (Admin at (command.Migrating s m) answers.Ok)) w plan spent at s (planned.Migrating s m at) (command.Migrating s m) e (λ p x. refl) refl (λ t. refl) (send_step n goal w plan s m at e.base)
      (cond-true _ _ _ (eq-eqb s s refl)) (λ t f. cond-false _ _ _ (ne_eqb t s f)) (λ t i h. agreed (eqb t s) t i (len_ok (κ t) (e.passed t) (count w t) (e.base.marks t).phase (e.slots t)) h)
    where
      agreed : (b : Bool) (t i : ℕ) → e.passed t ≤ length (κ t) → i < e.passed t → slice_index (κ t) i ≡ slice_index (cond b (κ t ++ count w s at ∷ []) (κ t)) i
      agreed true t i le h = sym (get_or-append (κ t) (count w s at ∷ []) 0 i (omega arith))
      agreed false t i le h = refl

  none_exact : (κ : Counts) (w : World) (plan : List PlanCommand) (spent s o t b : ℕ) → Exactly κ w (planned.Drain s o t b ∷ plan) None spent → ListsSlot (node_at w o).held s b [] → Exactly κ (effect w o (command.KeysIn s b)) plan None (1 + spent)
  none_exact κ w plan spent s o t b e none =
      let calm = list_none_step n goal w plan s o t b e.base none in
      let turn = drain_turn n goal w plan s o t b None e.base w in
      let p' : ℕ → ℕ = one_more e.passed s in
      done κ κ w (effect w o (command.KeysIn s b)) (planned.Drain s o t b) plan spent p' calm.next.0
      (calm_slots κ κ w (planned.Drain s o t b ∷ plan) plan spent o s (command.KeysIn s b) true e calm refl (λ u f. refl) p' (one_here e.passed s) (λ u f. one_other e.passed s u f))
      (calm_fresh κ κ w (planned.Drain s o t b ∷ plan) plan spent o s (command.KeysIn s b) true e calm refl (λ u f. refl) p' (one_here e.passed s) (λ u f. one_other e.passed s u f)
      (subst (λ q. Fresh (κ s) (suc (e.passed s)) (count w s) q) (sym (list_none_later n goal w plan s o t b e.base none)) tt) (λ u f. ne_eqb s u (λ g. f (sym g))))
      (λ x. e.behind x + (2 * rounds b (slice_index (x s) (e.passed s)) + 1))
      (λ x. let a : cost none_passed x whole ≡ e.behind x + ((2 * rounds b (slice_index (x s) (e.passed s)) + 1) + cost p' x plan) = e.splits x in omega arith)
      (λ x y g. (λ j. e.kept x y (λ u i h. g u i (more u i h)) j + (2 * rounds b (g s (e.passed s) last j) + 1)))
      (let p : spent + ((2 * rounds b (count w s o) + 1) + cost p' κ plan) ≡ e.behind κ + ((2 * rounds b (slice_index (κ s) (e.passed s)) + 1) + cost p' κ plan) = e.paid in
      let c : count w s o ≡ 0 = ap length (none_by_listing _ s b turn.2.some none) in
      let z : rounds b (count w s o) ≡ 0 = ap (rounds b) c ∙ empty turn.2.some in
      omega arith)
    where
      more : (u i : ℕ) → i < e.passed u → i < one_more e.passed s u
      more u i h = elim (cases_eq u s) [
        | inl f ↦ subst (λ x. i < one_more e.passed s x) (sym f) (let a : one_more e.passed s s ≡ suc (e.passed s) = one_here e.passed s in let g : i < e.passed s = subst (λ x. i < e.passed x) f h in omega arith)
        | inr f ↦ (let a : one_more e.passed s u ≡ e.passed u = one_other e.passed s u f in omega arith)
      ]

      last : e.passed s < one_more e.passed s s
      last = let a : one_more e.passed s s ≡ suc (e.passed s) = one_here e.passed s in omega arith

      empty : 0 < b → rounds b 0 ≡ 0
      empty some = let z : rounds b 0 < 1 = (div-lt_iff_lt-mul some).1 (omega arith) in omega arith

  some_exact : (κ : Counts) (w : World) (plan : List PlanCommand) (spent s o t b : ℕ) (k : Key) (ks : List Key) → Exactly κ w (planned.Drain s o t b ∷ plan) None spent → ListsSlot (node_at w o).held s b (k ∷ ks)
      → Exactly κ (effect w o (command.KeysIn s b)) (planned.Drain s o t b ∷ plan) (Some (k ∷ ks)) (1 + spent)
  unfolding effect
  some_exact κ w plan spent s o t b k ks e some = record {
    base = calm.next.0;
    passed = e.passed;
    slots = λ u. subst (λ p. CountOk (κ u) (e.passed u) (count w u) p) (sym (phase u)) (e.slots u);
    fresh = λ u f. subst (λ p. Fresh (κ u) (e.passed u) (count w u) p) (sym (phase u)) (e.fresh u f);
    behind = e.behind;
    splits = e.splits;
    kept = e.kept;
    paid = (let p = e.paid in pays left step p);
  }
    where
      calm : Calm n goal w (planned.Drain s o t b ∷ plan) (planned.Drain s o t b ∷ plan) None (Some (k ∷ ks)) e.base o (command.KeysIn s b) s false
      calm = list_some_step n goal w plan s o t b k ks e.base some

      phase : (u : ℕ) → (calm.next.0.marks u).phase ≡ (e.base.marks u).phase
      phase u = list_some_phase n goal w plan s o t b k ks e.base some u

      turn : 0 < b
      turn = (drain_turn n goal w plan s o t b None e.base w).2.some

      left : length (left_of (node_at w o).held s (k ∷ ks)) ≡ count w s o - b
      left = left_exact (node_at w o).held s b (k ∷ ks) some

      step : rounds b (count w s o) ≡ rounds b (count w s o - b) + 1
      step = rounds_whole b (count w s o) turn (some_by_listing (node_at w o).held s b k ks some)

      pays : length (left_of (node_at w o).held s (k ∷ ks)) ≡ count w s o - b → rounds b (count w s o) ≡ rounds b (count w s o - b) + 1
          → spent + ((2 * rounds b (count w s o) + 1) + cost (one_more e.passed s) κ plan) ≡ e.behind κ + cost e.passed κ (planned.Drain s o t b ∷ plan)
          → 1 + spent + ((2 * rounds b (length (left_of (node_at w o).held s (k ∷ ks))) + 2) + cost (one_more e.passed s) κ plan) ≡ e.behind κ + cost e.passed κ (planned.Drain s o t b ∷ plan)
      pays l r p = subst (λ x. 1 + spent + ((2 * rounds b x + 2) + cost (one_more e.passed s) κ plan) ≡ e.behind κ + cost e.passed κ (planned.Drain s o t b ∷ plan)) (sym l) (let q = r in let i = p in omega arith)

  batch_exact : (κ : Counts) (w : World) (plan : List PlanCommand) (spent s o t b : ℕ) (ks : List Key) → Exactly κ w (planned.Drain s o t b ∷ plan) (Some ks) spent → Exactly κ (effect w o (command.Migrate ks t)) (planned.Drain s o t b ∷ plan) None (1 + spent)
  batch_exact κ w plan spent s o t b ks e = record {
    base = batch.next.0;
    passed = e.passed;
    slots = λ u. elim (cases_eq u s) [
      | inl f ↦ subst (λ x. CountOk (κ x) (e.passed x) (count next x) (batch.next.0.marks x).phase) (sym f)
          (subst (λ p. CountOk (κ s) (e.passed s) (count next s) p) (sym batch.next.2) (here.0, (let a : count next s o ≡ length (left_of (node_at w o).held s ks) = moved in let l : length (left_of (node_at w o).held s ks) ≤ count w s o = fewer_left (node_at w o).held s ks in let m : count w s o ≤ slice_index (κ s) (e.passed s) = here.1 in omega arith)))
      | inr f ↦ subst (λ p. CountOk (κ u) (e.passed u) (count next u) p) (sym (batch.next.1 u f)) (count_over (κ u) (e.passed u) (count w u) (count next u) (e.base.marks u).phase (other u f) (e.slots u))
    ];
    fresh = λ u f. subst (λ p. Fresh (κ u) (e.passed u) (count next u) p) (sym (batch.next.1 u (λ g. eqb-false s u f (sym g)))) (fresh_over (κ u) (e.passed u) (count w u) (count next u) (e.base.marks u).phase (other u (λ g. eqb-false s u f (sym g))) (e.fresh u f));
    behind = e.behind;
    splits = e.splits;
    kept = e.kept;
    paid = subst (λ x. 1 + spent + ((2 * rounds b x + 1) + cost (one_more e.passed s) κ plan) ≡ e.behind κ + cost e.passed κ (planned.Drain s o t b ∷ plan)) (sym moved) (let p = e.paid in omega (arith, p));
  }
    where
      batch : Batch n goal w plan s o t b ks e.base
      batch = migrate_step n goal w plan s o t b ks e.base

      next : World
      next = effect w o (command.Migrate ks t)

      here : (length (κ s) ≡ suc (e.passed s)) × (count w s o ≤ slice_index (κ s) (e.passed s))
      here = subst (λ p. CountOk (κ s) (e.passed s) (count w s) p) batch.was (e.slots s)

      moved : count next s o ≡ length (left_of (node_at w o).held s ks)
      moved = left_by_batch (node_at w o).held (node_at next o).held s ks batch.at_source

      other : (u : ℕ) → u ≢ s → (m : ℕ) → count next u m ≡ count w u m
      other u f m = count_same (node_at w m).held (node_at next m).held u (λ k i. batch.others m k (λ j. f (sym i ∙ j)))

  abbrev pub NextExactly : Counts → World → ℕ → AdminCommand → AdminReply → List PlanCommand → Option (List Key) → ℕ → Type 0
  NextExactly κ w r c reply rest listed spent = Exactly (counts_after κ w (Admin r c reply)) (effect w r c) rest listed (1 + spent)

  exact_over : (κ : Counts) (w : World) (reply : AdminReply) (spent r r' : ℕ) (c c' : AdminCommand) (rest rest' : List PlanCommand) (listed listed' : Option (List Key))
      → r ≡ r' → c ≡ c' → rest ≡ rest' → listed ≡ listed' → NextExactly κ w r' c' reply rest' listed' spent → NextExactly κ w r c reply rest listed spent
  exact_over κ w reply spent r r' c c' rest rest' listed listed' p q t u h =
      subst (λ a. NextExactly κ w a c reply rest listed spent) (sym p) (subst (λ a. NextExactly κ w r' a reply rest listed spent) (sym q) (subst (λ a. NextExactly κ w r' c' reply a listed spent) (sym t) (subst (λ a. NextExactly κ w r' c' reply rest' a spent) (sym u) h)))

  pub spelled_exact : (κ : Counts) (w : World) (plan : List PlanCommand) (listed : Option (List Key)) (r : ℕ) (c : AdminCommand) (reply : AdminReply) (rest : List PlanCommand) (listed' : Option (List Key)) (spent : ℕ)
      → Exactly κ w plan listed spent → MayReply w r c reply → Spells (remaining plan listed) (called r c reply) (remaining rest listed') → NextExactly κ w r c reply rest listed' spent
  spelled_exact κ w [] listed r c reply rest listed' spent e i h = absurd h
  spelled_exact κ w (planned.Importing s m at ∷ plan) None r c reply rest listed' spent e i h = exact_over κ w reply spent r at c (command.Importing s m) rest plan listed' None h.0 h.1 h.2 h.3
      (setslot_exact κ κ w plan spent at s (planned.Importing s m at) (command.Importing s m) e (λ p x. refl) refl (λ t. refl) (import_step n goal w plan s m at e.base) refl (λ t f. refl) (λ t j g. refl))
  spelled_exact κ w (planned.Importing s m at ∷ plan) (Some ks) r c reply rest listed' spent e i h = absurd h
  spelled_exact κ w (planned.Migrating s m at ∷ plan) None r c reply rest listed' spent e i h = exact_over κ w reply spent r at c (command.Migrating s m) rest plan listed' None h.0 h.1 h.2 h.3
      (subst (λ a. NextExactly κ w at (command.Migrating s m) a plan None spent) (sym (subst₂ (λ x y. MayReply w x y reply) h.0 h.1 i ∙ fine_reply n goal whole w at s m (send_step n goal w plan s m at e.base).no_fault)) (send_exact κ w plan spent s m at e))
  spelled_exact κ w (planned.Migrating s m at ∷ plan) (Some ks) r c reply rest listed' spent e i h = absurd h
  spelled_exact κ w (planned.SetNode s m at ∷ plan) None r c reply rest listed' spent e i h = exact_over κ w reply spent r at c (command.SetNode s m) rest plan listed' None h.0 h.1 h.2 h.3
      (setslot_exact κ κ w plan spent at s (planned.SetNode s m at) (command.SetNode s m) e (λ p x. refl) refl (λ t. refl) (tell_step n goal w plan s m at e.base) refl (λ t f. refl) (λ t j g. refl))
  spelled_exact κ w (planned.SetNode s m at ∷ plan) (Some ks) r c reply rest listed' spent e i h = absurd h
  spelled_exact κ w (planned.Stable s at ∷ plan) None r c reply rest listed' spent e i h = exact_over κ w reply spent r at c (command.Stable s) rest plan listed' None h.0 h.1 h.2 h.3
      (setslot_exact κ κ w plan spent at s (planned.Stable s at) (command.Stable s) e (λ p x. refl) refl (λ t. refl) (stable_step n goal w plan s at e.base) refl (λ t f. refl) (λ t j g. refl))
  spelled_exact κ w (planned.Stable s at ∷ plan) (Some ks) r c reply rest listed' spent e i h = absurd h
  spelled_exact κ w (planned.Drain s m t b ∷ plan) None r c reply rest listed' spent e i h = elim h.2 [
    | inl u ↦ exact_over κ w reply spent r m c (command.KeysIn s b) rest plan listed' None h.0 h.1 u.1 u.2 (none_exact κ w plan spent s m t b e (listing_keys w r m s b c reply [] h.0 h.1 i u.0))
    | inr u ↦ exact_over κ w reply spent r m c (command.KeysIn s b) rest (planned.Drain s m t b ∷ plan) listed' (Some (u.0 ∷ u.1)) h.0 h.1 u.3 u.4
        (some_exact κ w plan spent s m t b u.0 u.1 e (listing_keys w r m s b c reply (u.0 ∷ u.1) h.0 h.1 i u.2))
  ]
  spelled_exact κ w (planned.Drain s m t b ∷ plan) (Some ks) r c reply rest listed' spent e i h = exact_over κ w reply spent r m c (command.Migrate ks t) rest (planned.Drain s m t b ∷ plan) listed' None h.0 h.1 h.2 h.3
      (batch_exact κ w plan spent s m t b ks e)

  pub run_exact : (es : List Event) (κ : Counts) (w last : World) (past : List Event) (plan rest : List PlanCommand) (listed listed' : Option (List Key)) (store : Store) (spent : ℕ) → Inv n goal w past plan listed store
      → Exactly κ w plan listed spent → ServerRun w es last → Spelled (remaining plan listed) (calls es) (remaining rest listed') → NoClients es → Exactly (counts κ w es) last rest listed' (length (calls es) + spent)
  run_exact [] κ w last past plan rest listed listed' store spent inv e run spelt quiet =
      subst (λ x. Exactly κ last rest listed' x) (plus spent) (subst₂ (λ p l. Exactly κ last p l spent) (sym spelt.0) (sym spelt.1) (subst (λ x. Exactly κ x plan listed spent) (sym run) e))
    where
      plus : (a : ℕ) → a ≡ 0 + a
      plus a = omega arith
  run_exact (Client seat x asking c reply ∷ es) κ w last past plan rest listed listed' store spent inv e run spelt quiet = absurd quiet
  run_exact (Look seat x reply ∷ es) κ w last past plan rest listed listed' store spent inv e run spelt quiet =
      run_exact es κ w last past plan rest listed listed' store spent inv e run.1 spelt quiet
  run_exact (Admin r c reply ∷ es) κ w last past plan rest listed listed' store spent inv e run spelt quiet =
      let good : AdminGood n goal w past r c reply spelt.0.rest spelt.0.listed store = spelled n goal w past store plan listed r c reply spelt.0.rest spelt.0.listed inv run.0.1 spelt.1 in
      let is : after w (Admin r c reply) ≡ effect w r c = after_admin n goal w r c good.0 in
      let inv' : Inv n goal (after w (Admin r c reply)) (Admin r c reply ∷ past) spelt.0.rest spelt.0.listed store = subst (λ x. Inv n goal x (Admin r c reply ∷ past) spelt.0.rest spelt.0.listed store) (sym is) good.1 in
      let e' : Exactly (counts_after κ w (Admin r c reply)) (after w (Admin r c reply)) spelt.0.rest spelt.0.listed (1 + spent) =
      subst (λ x. Exactly (counts_after κ w (Admin r c reply)) x spelt.0.rest spelt.0.listed (1 + spent)) (sym is) (spelled_exact κ w plan listed r c reply spelt.0.rest spelt.0.listed spent e run.0.1 spelt.1) in
      let more = run_exact es (counts_after κ w (Admin r c reply)) (after w (Admin r c reply)) last (Admin r c reply ∷ past) spelt.0.rest rest spelt.0.listed listed' store (1 + spent) inv' e' run.1 spelt.2 quiet in
      subst (λ x. Exactly (counts (counts_after κ w (Admin r c reply)) (after w (Admin r c reply)) es) last rest listed' x) (sum (length (calls es)) spent) more
    where
      sum : (a b : ℕ) → a + (1 + b) ≡ suc a + b
      sum a b = omega arith
