-- The calls of each slot stay within the cost of its part, and no source gains a key.
use Rattle.std.proofs.Common.{◌≡◌, ◌≢◌, ℕ, suc, ◌+◌, ◌-◌, ◌*◌, ◌≤◌, Bool, true, false, cond, eqb, List, [], ◌∷◌, ◌++◌, length, Option, Some, None, is_some, sym, refl, ap, ◌∙◌, subst, subst₂, arith, inl, inr}
use Rattle.std.proofs.lemmas.Bool.{cases_Bool, cases_eq, true≢false, cond-true, cond-false, eq-eqb, ne_eqb}
use Rattle.std.specs.Prelude.{slice_index}
use Rattle.key_slots.specs.HashSlot.{slot_of}
use Rattle.typed_values.specs.declared.value.Value.{Value}
use Rattle.store_commands.specs.Store.{Key, is_named}
use Rattle.cluster_admin.specs.declared.admin.AdminCommand.{AdminCommand}
use Rattle.cluster_admin.specs.declared.admin.AdminCommand.TheVariants as command
use Rattle.cluster_admin.specs.declared.admin.AdminReply.{AdminReply}
use Rattle.cluster_admin.specs.declared.admin.AdminReply.TheVariants as answers
use Rattle.cluster_admin.specs.declared.call.AdminCall.{AdminCall}
use Rattle.cluster_world.specs.AdminCalls.{calls}
use Rattle.cluster_world.specs.Commanding.{admin_after, admin_fault, effect}
use Rattle.cluster_world.specs.Servers.{ListsSlot, MayReply, ServerRun}
use Rattle.cluster_world.specs.Steps.{after}
use Rattle.cluster_world.specs.Worlds.{World, held, node_at}
use Rattle.cluster_world.specs.declared.event.Event.{Event}
use Rattle.cluster_world.specs.declared.event.Event.TheVariants.{Admin, Client, Look}
use Rattle.plan_language.specs.declared.plan_command.PlanCommand.{PlanCommand}
use Rattle.plan_language.specs.declared.plan_command.PlanCommand.TheVariants as planned
use Rattle.plan_semantics.specs.Costs.{Counts, cost, none_passed, one_more, rounds}
use Rattle.plan_semantics.specs.Driving.{NoRefusal, Remaining, SpellsNext, called, is_refused, remaining}
use Rattle.plan_semantics.specs.Plans.{part, slot_named}
use Rattle.reshard_theorem.specs.Counts.{counts, counts_after}
use Rattle.reshard_theorem.specs.DrivenRuns.{GainsNone, NeverGains}
use Rattle.reshard_theorem.proofs.Admins.{Batch, Calm, NewCount, drain_turn, import_step, list_none_step, list_some_step, migrate_step, passed_on, send_step, stable_step, tell_step}
use Rattle.reshard_theorem.proofs.Base.{Base, ListedOk}
use Rattle.reshard_theorem.proofs.Clients.{client_base}
use Rattle.reshard_theorem.proofs.Counting.{count_le, left_after_batch, left_exact, left_le, left_of, rounds_step, some_by_listing}
use Rattle.reshard_theorem.proofs.Gains.{client_gain, none_fault, turned}
use Rattle.reshard_theorem.proofs.Phases.{CountOk, Migrating, Phase}
use Rattle.reshard_theorem.proofs.Servers.{listing_keys}
use Rattle.reshard_theorem.proofs.Spending.{Grows, count, count_kept, due, fine_reply, grow_append, grows_same, one_here, refused_by, rounds_grow, source_facts}
use Rattle.reshard_theorem.proofs.Whole.{after_admin}
use Rattle.slotwise_runs.specs.Seen.{of_slot, slot_called}
use Rattle.slotwise_runs.proofs.Calls.{of_slot-here, of_slot-there, spells_front}
use Rattle.slotwise_runs.proofs.Fronts.{base_by_parts, listed_front}
use Rattle.slotwise_runs.proofs.Keeping.{AreOpen, Listings, SpelledEach, here, left_here, listing_here, listing_there, next_listed, next_open, next_plan, next_spelt, same_elsewhere}
use Rattle.slotwise_runs.proofs.Parts.{AllOf, all-part, front, part-front, without}

-- ---- the counts after a call

pub counts_other : (κ : Counts) (w : World) (r : ℕ) (c : AdminCommand) (reply : AdminReply) (t : ℕ) → t ≢ slot_called c → counts_after κ w (Admin r c reply) t ≡ κ t
counts_other κ w r (command.Migrating s m) answers.Ok t e = cond-false (eqb t s) (κ t ++ count w s r ∷ []) (κ t) (ne_eqb t s e)
counts_other κ w r (command.Migrating s m) answers.NoKey t e = refl
counts_other κ w r (command.Migrating s m) (answers.Keys ks) t e = refl
counts_other κ w r (command.Migrating s m) (answers.Refused k) t e = refl
counts_other κ w r (command.Importing s m) reply t e = refl
counts_other κ w r (command.SetNode s m) reply t e = refl
counts_other κ w r (command.Stable s) reply t e = refl
counts_other κ w r (command.KeysIn s m) reply t e = refl
counts_other κ w r (command.Migrate ks m) reply t e = refl

pub counts_grow : (κ : Counts) (w : World) (r : ℕ) (c : AdminCommand) (reply : AdminReply) → Grows κ (counts_after κ w (Admin r c reply))
counts_grow κ w r (command.Migrating s m) answers.Ok = λ t i. grown (eqb t s) t i
  where
    grown : (b : Bool) (t i : ℕ) → slice_index (κ t) i ≤ slice_index (cond b (κ t ++ count w s r ∷ []) (κ t)) i
    grown true t i = grow_append (κ t) (count w s r) i
    grown false t i = omega arith
counts_grow κ w r (command.Migrating s m) answers.NoKey = grows_same κ
counts_grow κ w r (command.Migrating s m) (answers.Keys ks) = grows_same κ
counts_grow κ w r (command.Migrating s m) (answers.Refused k) = grows_same κ
counts_grow κ w r (command.Importing s m) reply = grows_same κ
counts_grow κ w r (command.SetNode s m) reply = grows_same κ
counts_grow κ w r (command.Stable s) reply = grows_same κ
counts_grow κ w r (command.KeysIn s m) reply = grows_same κ
counts_grow κ w r (command.Migrate ks m) reply = grows_same κ

-- a part costs by its own slot's counts
pub cost_same : (s : ℕ) (p : ℕ → ℕ) (κ κ' : Counts) (xs : List PlanCommand) → AllOf s xs → κ' s ≡ κ s → cost p κ' xs ≡ cost p κ xs
cost_same s p κ κ' [] all e = refl
cost_same s p κ κ' (planned.Importing u m at ∷ xs) all e = ap (λ x. 1 + x) (cost_same s p κ κ' xs all.1 e)
cost_same s p κ κ' (planned.Migrating u m at ∷ xs) all e = ap (λ x. 1 + x) (cost_same s p κ κ' xs all.1 e)
cost_same s p κ κ' (planned.SetNode u m at ∷ xs) all e = ap (λ x. 1 + x) (cost_same s p κ κ' xs all.1 e)
cost_same s p κ κ' (planned.Stable u at ∷ xs) all e = ap (λ x. 1 + x) (cost_same s p κ κ' xs all.1 e)
cost_same s p κ κ' (planned.Drain u m t b ∷ xs) all e =
    let h : slice_index (κ' u) (p u) ≡ slice_index (κ u) (p u) = ap (λ l. slice_index l (p u)) (ap κ' all.0 ∙ e ∙ sym (ap κ all.0)) in
    let g : cost (one_more p u) κ' xs ≡ cost (one_more p u) κ xs = cost_same s (one_more p u) κ κ' xs all.1 e in
    ap (λ x. (2 * rounds b x + 1) + cost (one_more p u) κ' xs) h ∙ ap (λ x. (2 * rounds b (slice_index (κ u) (p u)) + 1) + x) g

module _ (n : ℕ) (goal : ℕ → ℕ) (wholes : ℕ → List PlanCommand) where
  -- what the calls of one slot have taken, and what the rest of its part still takes
  pub record Own (κ : Counts) (w : World) (q : Phase) (s : ℕ) (mine : List PlanCommand) (listed : Option (List Key)) (spent : ℕ) : Type 0 where
    -- how many of its drains are after
    pub passed : ℕ → ℕ
    pub ok : CountOk (κ s) (passed s) (count w s) q
    -- what the commands before cost, by any counts
    pub behind : Counts → ℕ
    pub splits : (x : Counts) → cost none_passed x (wholes s) ≡ behind x + cost passed x mine
    pub grows : (x y : Counts) → Grows x y → behind x ≤ behind y
    pub paid : spent + due passed κ w mine listed ≤ behind κ + cost passed κ mine

  within_own : (κ : Counts) (w : World) (q : Phase) (s : ℕ) (mine : List PlanCommand) (listed : Option (List Key)) (spent : ℕ) → Own κ w q s mine listed spent → spent ≤ cost none_passed κ (wholes s)
  within_own κ w q s mine listed spent own =
      let e : cost none_passed κ (wholes s) ≡ own.behind κ + cost own.passed κ mine = own.splits κ in let p = own.paid in omega arith

  -- before a command begins, no more is due than its cost
  pub due_le : (p : ℕ → ℕ) (κ : Counts) (w : World) (s : ℕ) (mine others : List PlanCommand) (b : Base n goal w (mine ++ others) None) → AllOf s mine
      → CountOk (κ s) (p s) (count w s) (b.marks s).phase → due p κ w mine None ≤ cost p κ mine
  due_le p κ w s [] others b all ok = omega arith
  due_le p κ w s (planned.Importing u m at ∷ mine) others b all ok = omega arith
  due_le p κ w s (planned.Migrating u m at ∷ mine) others b all ok = omega arith
  due_le p κ w s (planned.SetNode u m at ∷ mine) others b all ok = omega arith
  due_le p κ w s (planned.Stable u at ∷ mine) others b all ok = omega arith
  due_le p κ w s (planned.Drain u o t d ∷ mine) others b all ok =
      let turn = drain_turn n goal w (mine ++ others) u o t d None b w in
      let ok' : CountOk (κ u) (p u) (count w u) (Migrating o t) =
      subst (λ q. CountOk (κ u) (p u) (count w u) q) (sym turn.1 ∙ turn.2.was) (subst (λ v. CountOk (κ v) (p v) (count w v) (b.marks v).phase) (sym all.0) ok) in
      let g : rounds d (count w u o) ≤ rounds d (slice_index (κ u) (p u)) = rounds_grow n goal [] d (count w u o) (slice_index (κ u) (p u)) ok'.1 in
      omega arith

  -- ---- events that are none of the slot's calls

  unmoved : (κ κ' : Counts) (w next : World) (q : Phase) (s : ℕ) (mine others : List PlanCommand) (listed : Option (List Key)) (spent : ℕ)
      → (b : Base n goal w (mine ++ others) listed) → (b.marks s).phase ≡ q → AllOf s mine → κ' s ≡ κ s → Grows κ κ'
      → ((o t : ℕ) → q ≡ Migrating o t → (k : Key) → slot_of k ≡ s → held w o k ≡ None → held next o k ≡ None)
      → Own κ w q s mine listed spent → Own κ' next q s mine listed spent
  unmoved κ κ' w next q s mine others listed spent b is all same grow less own = record {
    passed = own.passed;
    ok = subst (λ l. CountOk l (own.passed s) (count next s) q) (sym same)
        (count_kept n goal [] (κ s) (own.passed s) (count w s) (count next s) q (λ o t e. count_le (node_at w o).held (node_at next o).held s (less o t e)) own.ok);
    behind = own.behind;
    splits = own.splits;
    grows = own.grows;
    paid =
        let p = own.paid in
        let g : own.behind κ ≤ own.behind κ' = own.grows κ κ' grow in
        let c : cost own.passed κ' mine ≡ cost own.passed κ mine = cost_same s own.passed κ κ' mine all same in
        let d : due own.passed κ' next mine listed ≤ due own.passed κ w mine listed = due_less mine listed b is all in
        omega arith;
  }
    where
      due_less : (mine : List PlanCommand) (listed : Option (List Key)) (b : Base n goal w (mine ++ others) listed) → (b.marks s).phase ≡ q → AllOf s mine
          → due own.passed κ' next mine listed ≤ due own.passed κ w mine listed
      due_less [] listed b is all = omega arith
      due_less (planned.Importing u m at ∷ mine) listed b is all = let c : cost own.passed κ' mine ≡ cost own.passed κ mine = cost_same s own.passed κ κ' mine all.1 same in omega arith
      due_less (planned.Migrating u m at ∷ mine) listed b is all = let c : cost own.passed κ' mine ≡ cost own.passed κ mine = cost_same s own.passed κ κ' mine all.1 same in omega arith
      due_less (planned.SetNode u m at ∷ mine) listed b is all = let c : cost own.passed κ' mine ≡ cost own.passed κ mine = cost_same s own.passed κ κ' mine all.1 same in omega arith
      due_less (planned.Stable u at ∷ mine) listed b is all = let c : cost own.passed κ' mine ≡ cost own.passed κ mine = cost_same s own.passed κ κ' mine all.1 same in omega arith
      due_less (planned.Drain u o t d ∷ mine) None b is all =
          let turn = drain_turn n goal w (mine ++ others) u o t d None b w in
          let moving : q ≡ Migrating o t = sym is ∙ ap (λ v. (b.marks v).phase) (sym all.0) ∙ sym turn.1 ∙ turn.2.was in
          let gain : (k : Key) → slot_of k ≡ u → held w o k ≡ None → held next o k ≡ None = λ k i h. less o t moving k (i ∙ all.0) h in
          let l : rounds d (count next u o) ≤ rounds d (count w u o) = rounds_grow n goal [] d _ _ (count_le (node_at w o).held (node_at next o).held u gain) in
          let c : cost (one_more own.passed u) κ' mine ≡ cost (one_more own.passed u) κ mine = cost_same s (one_more own.passed u) κ κ' mine all.1 same in
          omega arith
      due_less (planned.Drain u o t d ∷ mine) (Some ks) b is all =
          let turn = drain_turn n goal w (mine ++ others) u o t d (Some ks) b w in
          let moving : q ≡ Migrating o t = sym is ∙ ap (λ v. (b.marks v).phase) (sym all.0) ∙ sym turn.1 ∙ turn.2.was in
          let gain : (k : Key) → slot_of k ≡ u → held w o k ≡ None → held next o k ≡ None = λ k i h. less o t moving k (i ∙ all.0) h in
          let l : rounds d (length (left_of (node_at next o).held u ks)) ≤ rounds d (length (left_of (node_at w o).held u ks)) =
          rounds_grow n goal [] d _ _ (left_le (node_at w o).held (node_at next o).held u ks gain) in
          let c : cost (one_more own.passed u) κ' mine ≡ cost (one_more own.passed u) κ mine = cost_same s (one_more own.passed u) κ κ' mine all.1 same in
          omega arith

  -- ---- a call of the slot, whose commands stand in front

  pub record Stepped (κ' : Counts) (w next : World) (s : ℕ) (plan : List PlanCommand) (listed : Option (List Key)) (b : Base n goal w plan listed)
      (others mine : List PlanCommand) (mine_listed : Option (List Key)) (spent : ℕ) : Type 0 where
    pub base : Base n goal next (mine ++ others) mine_listed
    pub stay : (t : ℕ) → t ≢ s → (base.marks t).phase ≡ (b.marks t).phase
    pub kept : (m : ℕ) (k : Key) → slot_of k ≢ s → held next m k ≡ held w m k
    pub own : Own κ' next (base.marks s).phase s mine mine_listed (1 + spent)

  calm_stepped : (κ κ' : Counts) (w : World) (plan others mine : List PlanCommand) (listed listed' : Option (List Key)) (was : List PlanCommand) (spent r s : ℕ) (c : AdminCommand) (passes : Bool)
      (b : Base n goal w plan listed) (own : Own κ w (b.marks s).phase s was listed spent)
      → (calm : Calm n goal w plan (mine ++ others) listed listed' b r c s passes) → NewCount (κ s) (κ' s) (count w s) r c
      → (passed' : ℕ → ℕ) → passed' s ≡ passed_on passes (own.passed s)
      → (behind' : Counts → ℕ) → ((x : Counts) → cost none_passed x (wholes s) ≡ behind' x + cost passed' x mine) → ((x y : Counts) → Grows x y → behind' x ≤ behind' y)
      → (CountOk (κ' s) (passed' s) (count (effect w r c) s) (calm.next.0.marks s).phase → 1 + spent + due passed' κ' (effect w r c) mine listed' ≤ behind' κ' + cost passed' κ' mine)
      → Stepped κ' w (effect w r c) s plan listed b others mine listed' spent
  calm_stepped κ κ' w plan others mine listed listed' was spent r s c passes b own calm new passed' here behind' splits' grows' pays = record {
    base = calm.next.0;
    stay = calm.next.1;
    kept = λ m k e. calm.same m k;
    own = record { passed = passed'; ok = ok'; behind = behind'; splits = splits'; grows = grows'; paid = pays ok' };
  }
    where
      at : CountOk (κ' s) (passed' s) (count w s) calm.later
      at = subst (λ i. CountOk (κ' s) i (count w s) calm.later) (sym here)
          (calm.counted (κ s) (κ' s) (own.passed s) (count w s) new (subst (λ p. CountOk (κ s) (own.passed s) (count w s) p) calm.was own.ok))

      same : (o : ℕ) → count (effect w r c) s o ≤ count w s o
      same o = count_le (node_at w o).held (node_at (effect w r c) o).held s (λ k i h. calm.same o k ∙ h)

      ok' : CountOk (κ' s) (passed' s) (count (effect w r c) s) (calm.next.0.marks s).phase
      ok' = subst (λ p. CountOk (κ' s) (passed' s) (count (effect w r c) s) p) (sym calm.next.2)
          (count_kept n goal [] (κ' s) (passed' s) (count w s) (count (effect w r c) s) calm.later (λ o t e. same o) at)

  -- a SETSLOT: o is the command, which costs one call
  setslot_stepped : (κ κ' : Counts) (w : World) (o : PlanCommand) (mine others : List PlanCommand) (spent r s : ℕ) (c : AdminCommand)
      (b : Base n goal w (o ∷ (mine ++ others)) None) (own : Own κ w (b.marks s).phase s (o ∷ mine) None spent) → AllOf s mine
      → ((p : ℕ → ℕ) (x : Counts) → cost p x (o ∷ mine) ≡ 1 + cost p x mine) → due own.passed κ w (o ∷ mine) None ≡ 1 + cost own.passed κ mine
      → (calm : Calm n goal w (o ∷ (mine ++ others)) (mine ++ others) None None b r c s false) → NewCount (κ s) (κ' s) (count w s) r c → Grows κ κ'
      → Stepped κ' w (effect w r c) s (o ∷ (mine ++ others)) None b others mine None spent
  setslot_stepped κ κ' w o mine others spent r s c b own all one owed calm new grow =
      calm_stepped κ κ' w (o ∷ (mine ++ others)) others mine None None (o ∷ mine) spent r s c false b own calm new own.passed refl (λ x. own.behind x + 1)
      (λ x. let e : cost none_passed x (wholes s) ≡ own.behind x + cost own.passed x (o ∷ mine) = own.splits x in let f : cost own.passed x (o ∷ mine) ≡ 1 + cost own.passed x mine = one own.passed x in omega arith)
      (λ x y g. let e : own.behind x ≤ own.behind y = own.grows x y g in omega arith)
      (λ ok. let d : due own.passed κ' (effect w r c) mine None ≤ cost own.passed κ' mine = due_le own.passed κ' (effect w r c) s mine others calm.next.0 all ok in
      let p : spent + due own.passed κ w (o ∷ mine) None ≤ own.behind κ + cost own.passed κ (o ∷ mine) = own.paid in
      let f : cost own.passed κ (o ∷ mine) ≡ 1 + cost own.passed κ mine = one own.passed κ in
      let e : own.behind κ ≤ own.behind κ' = own.grows κ κ' grow in
      omega (arith, owed))

  drained_stepped : (κ : Counts) (w : World) (mine others : List PlanCommand) (spent s o t d : ℕ)
      (b : Base n goal w (planned.Drain s o t d ∷ (mine ++ others)) None) → Own κ w (b.marks s).phase s (planned.Drain s o t d ∷ mine) None spent → AllOf s mine → ListsSlot (node_at w o).held s d []
      → Stepped κ w (effect w o (command.KeysIn s d)) s (planned.Drain s o t d ∷ (mine ++ others)) None b others mine None spent
  drained_stepped κ w mine others spent s o t d b own all none =
      let calm = list_none_step n goal w (mine ++ others) s o t d b none in
      calm_stepped κ κ w (planned.Drain s o t d ∷ (mine ++ others)) others mine None None (planned.Drain s o t d ∷ mine) spent o s (command.KeysIn s d) true b own calm refl (one_more own.passed s) (one_here own.passed s)
      (λ x. own.behind x + (2 * rounds d (slice_index (x s) (own.passed s)) + 1))
      (λ x. let e : cost none_passed x (wholes s) ≡ own.behind x + ((2 * rounds d (slice_index (x s) (own.passed s)) + 1) + cost (one_more own.passed s) x mine) = own.splits x in omega arith)
      (λ x y g. let e : own.behind x ≤ own.behind y = own.grows x y g in
      let f : rounds d (slice_index (x s) (own.passed s)) ≤ rounds d (slice_index (y s) (own.passed s)) = rounds_grow n goal [] d _ _ (g s (own.passed s)) in omega arith)
      (λ ok. let h : due (one_more own.passed s) κ (effect w o (command.KeysIn s d)) mine None ≤ cost (one_more own.passed s) κ mine = due_le (one_more own.passed s) κ (effect w o (command.KeysIn s d)) s mine others calm.next.0 all ok in
      let p : spent + ((2 * rounds d (count w s o) + 1) + cost (one_more own.passed s) κ mine) ≤ own.behind κ + ((2 * rounds d (slice_index (κ s) (own.passed s)) + 1) + cost (one_more own.passed s) κ mine) = own.paid in
      omega arith)

  some_stepped : (κ : Counts) (w : World) (mine others : List PlanCommand) (spent s o t d : ℕ) (k : Key) (ks : List Key)
      (b : Base n goal w (planned.Drain s o t d ∷ (mine ++ others)) None) → Own κ w (b.marks s).phase s (planned.Drain s o t d ∷ mine) None spent → ListsSlot (node_at w o).held s d (k ∷ ks)
      → Stepped κ w (effect w o (command.KeysIn s d)) s (planned.Drain s o t d ∷ (mine ++ others)) None b others (planned.Drain s o t d ∷ mine) (Some (k ∷ ks)) spent
  unfolding effect
  some_stepped κ w mine others spent s o t d k ks b own some =
      let calm = list_some_step n goal w (mine ++ others) s o t d k ks b some in
      let turn = drain_turn n goal w (mine ++ others) s o t d None b w in
      let left : length (left_of (node_at w o).held s (k ∷ ks)) ≡ count w s o - d = left_exact (node_at w o).held s d (k ∷ ks) some in
      let step : rounds d (length (left_of (node_at w o).held s (k ∷ ks))) + 1 ≤ rounds d (count w s o) = rounds_step d (count w s o) _ turn.2.some (some_by_listing (node_at w o).held s d k ks some) (omega arith) in
      calm_stepped κ κ w (planned.Drain s o t d ∷ (mine ++ others)) others (planned.Drain s o t d ∷ mine) None (Some (k ∷ ks)) (planned.Drain s o t d ∷ mine) spent o s (command.KeysIn s d) false b own calm refl own.passed refl
      own.behind own.splits own.grows (λ ok. let p = own.paid in pays own.passed (own.behind κ) step p)
    where
      pays : (passed : ℕ → ℕ) (behind : ℕ) → rounds d (length (left_of (node_at w o).held s (k ∷ ks))) + 1 ≤ rounds d (count w s o)
          → spent + ((2 * rounds d (count w s o) + 1) + cost (one_more passed s) κ mine) ≤ behind + cost passed κ (planned.Drain s o t d ∷ mine)
          → 1 + spent + due passed κ (effect w o (command.KeysIn s d)) (planned.Drain s o t d ∷ mine) (Some (k ∷ ks)) ≤ behind + cost passed κ (planned.Drain s o t d ∷ mine)
      pays passed behind step p = omega arith

  batch_stepped : (κ : Counts) (w : World) (mine others : List PlanCommand) (spent s o t d : ℕ) (ks : List Key)
      (b : Base n goal w (planned.Drain s o t d ∷ (mine ++ others)) (Some ks)) → Own κ w (b.marks s).phase s (planned.Drain s o t d ∷ mine) (Some ks) spent
      → Stepped κ w (effect w o (command.Migrate ks t)) s (planned.Drain s o t d ∷ (mine ++ others)) (Some ks) b others (planned.Drain s o t d ∷ mine) None spent
  batch_stepped κ w mine others spent s o t d ks b own = record {
    base = batch.next.0;
    stay = batch.next.1;
    kept = batch.others;
    own = record {
      passed = own.passed;
      ok = subst (λ p. CountOk (κ s) (own.passed s) (count next s) p) (sym batch.next.2)
          (let before : CountOk (κ s) (own.passed s) (count w s) (Migrating o t) = subst (λ p. CountOk (κ s) (own.passed s) (count w s) p) batch.was own.ok in (before.0, less before.1));
      behind = own.behind;
      splits = own.splits;
      grows = own.grows;
      paid = (let p = own.paid in let l : rounds d (count next s o) ≤ rounds d (length (left_of (node_at w o).held s ks)) = rounds_grow n goal [] d _ _ (left_after_batch (node_at w o).held (node_at next o).held s ks batch.at_source) in omega arith);
    };
  }
    where
      batch : Batch n goal w (mine ++ others) s o t d ks b
      batch = migrate_step n goal w (mine ++ others) s o t d ks b

      next : World
      next = effect w o (command.Migrate ks t)

      gone : (x : Bool) (v : Option Value) → v ≡ None → cond x None v ≡ None
      gone true v p = refl
      gone false v p = p

      less : count w s o ≤ slice_index (κ s) (own.passed s) → count next s o ≤ slice_index (κ s) (own.passed s)
      less before = let l : count next s o ≤ count w s o = count_le (node_at w o).held (node_at next o).held s (λ k i h. batch.at_source k ∙ gone (is_named k ks) (held w o k) h) in omega arith

  abbrev StepBy : (κ : Counts) (w : World) (r : ℕ) (c : AdminCommand) (reply : AdminReply) (s : ℕ) (plan : List PlanCommand) (listed : Option (List Key)) (b : Base n goal w plan listed) (others mine : List PlanCommand) (mine_listed : Option (List Key)) (spent : ℕ) → Type 0
  StepBy κ w r c reply s plan listed b others mine mine_listed spent = Stepped (counts_after κ w (Admin r c reply)) w (admin_after w r c) s plan listed b others mine mine_listed spent

  granted : (κ' : Counts) (w : World) (r : ℕ) (c : AdminCommand) (s : ℕ) (plan : List PlanCommand) (listed : Option (List Key)) (b : Base n goal w plan listed) (others mine : List PlanCommand) (mine_listed : Option (List Key)) (spent : ℕ)
      → admin_fault w r c ≡ None → Stepped κ' w (effect w r c) s plan listed b others mine mine_listed spent → Stepped κ' w (admin_after w r c) s plan listed b others mine mine_listed spent
  granted κ' w r c s plan listed b others mine mine_listed spent e h = subst (λ x. Stepped κ' w x s plan listed b others mine mine_listed spent) (sym (after_admin n goal w r c e)) h

  over : (κ : Counts) (w : World) (reply : AdminReply) (r r' : ℕ) (c c' : AdminCommand) (s : ℕ) (plan : List PlanCommand) (listed : Option (List Key)) (b : Base n goal w plan listed) (others mine mine' : List PlanCommand) (l l' : Option (List Key)) (spent : ℕ)
      → r ≡ r' → c ≡ c' → mine ≡ mine' → l ≡ l' → StepBy κ w r' c' reply s plan listed b others mine' l' spent → StepBy κ w r c reply s plan listed b others mine l spent
  over κ w reply r r' c c' s plan listed b others mine mine' l l' spent p q t u h =
      subst (λ a. StepBy κ w a c reply s plan listed b others mine l spent) (sym p)
      (subst (λ a. StepBy κ w r' a reply s plan listed b others mine l spent) (sym q)
      (subst (λ a. StepBy κ w r' c' reply s plan listed b others a l spent) (sym t)
      (subst (λ a. StepBy κ w r' c' reply s plan listed b others mine' a spent) (sym u) h)))

  not_refused_fault : (w : World) (r : ℕ) (ks : List Key) (t : ℕ) (reply : AdminReply) → MayReply w r (command.Migrate ks t) reply → is_refused reply ≡ false → admin_fault w r (command.Migrate ks t) ≡ None
  not_refused_fault w r ks t reply may fine = elim (cases_Bool (is_some (admin_fault w r (command.Migrate ks t)))) [
    | inl e ↦ absurd (true≢false (sym (refused_by n goal [] w r (command.Migrate ks t) reply may e) ∙ fine))
    | inr e ↦ none_fault (admin_fault w r (command.Migrate ks t)) e
  ]

  step_head : (κ : Counts) (w : World) (o : PlanCommand) (xs others : List PlanCommand) (listed : Option (List Key)) (r : ℕ) (c : AdminCommand) (reply : AdminReply) (mid : Remaining) (spent : ℕ)
      (b : Base n goal w (o ∷ (xs ++ others)) listed) → AllOf (slot_named o) xs → MayReply w r c reply → SpellsNext (o ∷ xs) listed (called r c reply) mid → is_refused reply ≡ false
      → Own κ w (b.marks (slot_named o)).phase (slot_named o) (o ∷ xs) listed spent → StepBy κ w r c reply (slot_named o) (o ∷ (xs ++ others)) listed b others mid.rest mid.listed spent
  step_head κ w (planned.Importing s m at) xs others None r c reply mid spent b all may h fine own =
      let calm = import_step n goal w (xs ++ others) s m at b in
      over κ w reply r at c (command.Importing s m) s _ None b others mid.rest xs mid.listed None spent h.0 h.1 h.2 h.3
      (granted κ w at (command.Importing s m) s _ None b others xs None spent calm.no_fault
      (setslot_stepped κ κ w (planned.Importing s m at) xs others spent at s (command.Importing s m) b own all (λ p x. refl) refl calm refl (grows_same κ)))
  step_head κ w (planned.Importing s m at) xs others (Some ks) r c reply mid spent b all may h fine own = absurd h
  step_head κ w (planned.Migrating s m at) xs others None r c reply mid spent b all may h fine own =
      let calm = send_step n goal w (xs ++ others) s m at b in
      let ok : reply ≡ answers.Ok = subst₂ (λ x y. MayReply w x y reply) h.0 h.1 may ∙ fine_reply n goal [] w at s m calm.no_fault in
      let κ' : Counts = counts_after κ w (Admin at (command.Migrating s m) answers.Ok) in
      over κ w reply r at c (command.Migrating s m) s _ None b others mid.rest xs mid.listed None spent h.0 h.1 h.2 h.3
      (subst (λ a. StepBy κ w at (command.Migrating s m) a s (planned.Migrating s m at ∷ (xs ++ others)) None b others xs None spent) (sym ok)
      (granted κ' w at (command.Migrating s m) s _ None b others xs None spent calm.no_fault
      (setslot_stepped κ κ' w (planned.Migrating s m at) xs others spent at s (command.Migrating s m) b own all (λ p x. refl) refl calm (cond-true _ _ _ (eq-eqb s s refl)) (counts_grow κ w at (command.Migrating s m) answers.Ok))))
  step_head κ w (planned.Migrating s m at) xs others (Some ks) r c reply mid spent b all may h fine own = absurd h
  step_head κ w (planned.SetNode s m at) xs others None r c reply mid spent b all may h fine own =
      let calm = tell_step n goal w (xs ++ others) s m at b in
      over κ w reply r at c (command.SetNode s m) s _ None b others mid.rest xs mid.listed None spent h.0 h.1 h.2 h.3
      (granted κ w at (command.SetNode s m) s _ None b others xs None spent calm.no_fault
      (setslot_stepped κ κ w (planned.SetNode s m at) xs others spent at s (command.SetNode s m) b own all (λ p x. refl) refl calm refl (grows_same κ)))
  step_head κ w (planned.SetNode s m at) xs others (Some ks) r c reply mid spent b all may h fine own = absurd h
  step_head κ w (planned.Stable s at) xs others None r c reply mid spent b all may h fine own =
      let calm = stable_step n goal w (xs ++ others) s at b in
      over κ w reply r at c (command.Stable s) s _ None b others mid.rest xs mid.listed None spent h.0 h.1 h.2 h.3
      (granted κ w at (command.Stable s) s _ None b others xs None spent calm.no_fault
      (setslot_stepped κ κ w (planned.Stable s at) xs others spent at s (command.Stable s) b own all (λ p x. refl) refl calm refl (grows_same κ)))
  step_head κ w (planned.Stable s at) xs others (Some ks) r c reply mid spent b all may h fine own = absurd h
  step_head κ w (planned.Drain s m t d) xs others None r c reply mid spent b all may h fine own = elim h.2 [
    | inl u ↦
        let none = listing_keys w r m s d c reply [] h.0 h.1 may u.0 in
        over κ w reply r m c (command.KeysIn s d) s _ None b others mid.rest xs mid.listed None spent h.0 h.1 u.1 u.2
        (granted κ w m (command.KeysIn s d) s _ None b others xs None spent (list_none_step n goal w (xs ++ others) s m t d b none).no_fault
        (drained_stepped κ w xs others spent s m t d b own all none))
    | inr u ↦
        let some = listing_keys w r m s d c reply (u.0 ∷ u.1) h.0 h.1 may u.2 in
        over κ w reply r m c (command.KeysIn s d) s _ None b others mid.rest (planned.Drain s m t d ∷ xs) mid.listed (Some (u.0 ∷ u.1)) spent h.0 h.1 u.3 u.4
        (granted κ w m (command.KeysIn s d) s _ None b others (planned.Drain s m t d ∷ xs) (Some (u.0 ∷ u.1)) spent (list_some_step n goal w (xs ++ others) s m t d u.0 u.1 b some).no_fault
        (some_stepped κ w xs others spent s m t d u.0 u.1 b own some))
  ]
  step_head κ w (planned.Drain s m t d) xs others (Some ks) r c reply mid spent b all may h fine own =
      over κ w reply r m c (command.Migrate ks t) s _ (Some ks) b others mid.rest (planned.Drain s m t d ∷ xs) mid.listed None spent h.0 h.1 h.2 h.3
      (granted κ w m (command.Migrate ks t) s _ (Some ks) b others (planned.Drain s m t d ∷ xs) None spent
      (not_refused_fault w m ks t reply (subst₂ (λ x y. MayReply w x y reply) h.0 h.1 may) fine)
      (batch_stepped κ w xs others spent s m t d ks b own))

  step : (κ : Counts) (w : World) (s : ℕ) (xs others : List PlanCommand) (listed : Option (List Key)) (r : ℕ) (c : AdminCommand) (reply : AdminReply) (mid : Remaining) (spent : ℕ)
      (b : Base n goal w (xs ++ others) listed) → AllOf s xs → MayReply w r c reply → SpellsNext xs listed (called r c reply) mid → is_refused reply ≡ false
      → Own κ w (b.marks s).phase s xs listed spent → StepBy κ w r c reply s (xs ++ others) listed b others mid.rest mid.listed spent
  step κ w s [] others listed r c reply mid spent b all may h fine own = absurd h
  step κ w s (o ∷ xs) others listed r c reply mid spent b all may h fine own =
      subst (λ v. AllOf v xs → Own κ w (b.marks v).phase v (o ∷ xs) listed spent → StepBy κ w r c reply v (o ∷ (xs ++ others)) listed b others mid.rest mid.listed spent) all.0
      (λ all' own'. step_head κ w o xs others listed r c reply mid spent b all' may h fine own') all.1 own

  -- ---- the run

  pub record Spent (κ : Counts) (w : World) (es : List Event) (spent : ℕ → ℕ) : Type 0 where
    pub gains : NeverGains w es
    pub within : (s : ℕ) → length (of_slot s (calls es)) + spent s ≤ cost none_passed (counts κ w es) (wholes s)

  abbrev pub AllOwn : (κ : Counts) (w : World) (plan : List PlanCommand) (listed : Listings) (b : Base n goal w plan None) (spent : ℕ → ℕ) → Type 0
  AllOwn κ w plan listed b spent = (s : ℕ) → Own κ w (b.marks s).phase s (part plan s) (listed s) (spent s)

  -- the same by the plan that has the slot's commands in front
  pub at_front : (w : World) (plan : List PlanCommand) (listed : Listings) (b : Base n goal w plan None) → AreOpen plan listed → (s : ℕ)
      → (new : Base n goal w (front s plan) (listed s)) × ((t : ℕ) → (new.marks t).phase ≡ (b.marks t).phase)
  at_front w plan listed b fine s = base_by_parts n goal w plan (front s plan) None (listed s) (λ t. sym (part-front s plan t)) (listed_front (part plan s) (without s plan) (listed s) (fine s)) b

  client_own : (κ : Counts) (w next : World) (plan : List PlanCommand) (listed : Listings) (spent : ℕ → ℕ) (b : Base n goal w plan None) → AreOpen plan listed → AllOwn κ w plan listed b spent
      → (new : Base n goal next plan None) → ((s : ℕ) → (new.marks s).phase ≡ (b.marks s).phase) → GainsNone w next → AllOwn κ next plan listed new spent
  client_own κ w next plan listed spent b fine all new stays gains s =
      subst (λ p. Own κ next p s (part plan s) (listed s) (spent s)) (sym (stays s))
      (unmoved κ κ w next (b.marks s).phase s (part plan s) (without s plan) (listed s) (spent s) (at_front w plan listed b fine s).0 ((at_front w plan listed b fine s).1 s) (all-part plan s) refl (grows_same κ)
      (λ o t e k i h. let f = source_facts n goal [] w plan None b s o t e in gains o s k f.0 f.1 i h) (all s))

  more_spent : (ℕ → ℕ) → ℕ → ℕ → ℕ
  more_spent spent s t = cond (eqb t s) (1 + spent t) (spent t)

  pub run_spends : (es : List Event) (κ : Counts) (w last : World) (plan : List PlanCommand) (listed : Listings) (left : ℕ → Remaining) (spent : ℕ → ℕ) (b : Base n goal w plan None)
      → AreOpen plan listed → AllOwn κ w plan listed b spent → ServerRun w es last → SpelledEach plan listed (calls es) left → NoRefusal (calls es) → Spent κ w es spent
  unfolding more_spent
  run_spends [] κ w last plan listed left spent b fine all run spelt none = record {
    gains = tt;
    within = λ s. (let h : spent s ≤ cost none_passed κ (wholes s) = within_own κ w (b.marks s).phase s (part plan s) (listed s) (spent s) (all s) in omega arith);
  }
  run_spends (Client seat x asking c reply ∷ es) κ w last plan listed left spent b fine all run spelt none =
      let new = client_base n goal w plan None seat x asking c reply b run.0 in
      let gain = client_gain n goal w plan None seat x asking c reply b run.0 in
      let s = run_spends es κ (after w (Client seat x asking c reply)) last plan listed left spent new.0 fine
      (client_own κ w (after w (Client seat x asking c reply)) plan listed spent b fine all new.0 new.1 gain) run.1 spelt none in
      record { gains = (gain, s.gains); within = s.within }
  run_spends (Look seat x reply ∷ es) κ w last plan listed left spent b fine all run spelt none =
      let s = run_spends es κ w last plan listed left spent b fine all run.1 spelt none in
      record { gains = (λ node u k own mark slot h. h, s.gains); within = s.within }
  run_spends (Admin r c reply ∷ es) κ w last plan listed left spent b fine all run spelt none =
      let rest : Spent κ' next_w es (more_spent spent s) = run_spends es κ' next_w last next new_listed left (more_spent spent s) new.0 (next_open plan listed call (calls es) left spelt fine stepped.base.listing) owns run.1 (next_spelt plan listed call (calls es) left spelt) none.1 in record {
        gains = ((turned n goal w (front s plan) (listed s) r c reply next mid.listed first.0 run.0.1 spells).gains, rest.gains);
        within = λ t. elim (cases_eq t s) [
          | inl e ↦
              let g : length (of_slot t (calls es)) + more_spent spent s t ≤ cost none_passed (counts κ' next_w es) (wholes t) = rest.within t in
              let m : more_spent spent s t ≡ 1 + spent t = cond-true (eqb t s) (1 + spent t) (spent t) (eq-eqb t s e) in
              let l : length (of_slot t (call ∷ calls es)) ≡ suc (length (of_slot t (calls es))) = subst (λ u. length (of_slot u (call ∷ calls es)) ≡ suc (length (of_slot u (calls es)))) (sym e) (ap length (of_slot-here call (calls es))) in
              omega arith
          | inr e ↦
              let g : length (of_slot t (calls es)) + more_spent spent s t ≤ cost none_passed (counts κ' next_w es) (wholes t) = rest.within t in
              let m : more_spent spent s t ≡ spent t = cond-false (eqb t s) (1 + spent t) (spent t) (ne_eqb t s e) in
              let l : length (of_slot t (call ∷ calls es)) ≡ length (of_slot t (calls es)) = ap length (of_slot-there t call (calls es) e) in
              omega arith
        ];
      }
    where
      call : AdminCall
      call = called r c reply

      s : ℕ
      s = slot_called c

      mid : Remaining
      mid = (here plan listed call (calls es) left spelt).0

      next : List PlanCommand
      next = next_plan plan listed call (calls es) left spelt

      κ' : Counts
      κ' = counts_after κ w (Admin r c reply)

      next_w : World
      next_w = admin_after w r c

      first : (new : Base n goal w (front s plan) (listed s)) × ((t : ℕ) → (new.marks t).phase ≡ (b.marks t).phase)
      first = at_front w plan listed b fine s

      spells : SpellsNext (front s plan) (listed s) call (remaining next mid.listed)
      spells = spells_front (part plan s) (without s plan) (listed s) call mid (here plan listed call (calls es) left spelt).1

      stepped : Stepped κ' w next_w s (front s plan) (listed s) first.0 (without s plan) mid.rest mid.listed (spent s)
      stepped = step κ w s (part plan s) (without s plan) (listed s) r c reply mid (spent s) first.0 (all-part plan s) run.0.1 (here plan listed call (calls es) left spelt).1 none.0
          (subst (λ p. Own κ w p s (part plan s) (listed s) (spent s)) (sym (first.1 s)) (all s))

      new : (new : Base n goal next_w next None) × ((t : ℕ) → (new.marks t).phase ≡ (stepped.base.marks t).phase)
      new = base_by_parts n goal next_w next next mid.listed None (λ t. refl) tt stepped.base

      new_listed : Listings
      new_listed = next_listed plan listed call (calls es) left spelt

      owns : AllOwn κ' next_w next new_listed new.0 (more_spent spent s)
      owns t = elim (cases_eq t s) [
        | inl e ↦ subst (λ u. Own κ' next_w (new.0.marks u).phase u (part next u) (new_listed u) (more_spent spent s u)) (sym e)
            (subst (λ p. Own κ' next_w p s (part next s) (new_listed s) (more_spent spent s s)) (sym (new.1 s))
            (subst (λ l. Own κ' next_w (stepped.base.marks s).phase s l (new_listed s) (more_spent spent s s)) (sym (left_here plan listed call (calls es) left spelt))
            (subst₂ (λ l v. Own κ' next_w (stepped.base.marks s).phase s mid.rest l v) (sym (listing_here listed s s mid.listed refl)) (sym (cond-true (eqb s s) (1 + spent s) (spent s) (eq-eqb s s refl)))
            stepped.own)))
        | inr e ↦
            let moved : Own κ' next_w (b.marks t).phase t (part plan t) (listed t) (spent t) =
            unmoved κ κ' w next_w (b.marks t).phase t (part plan t) (without t plan) (listed t) (spent t) (at_front w plan listed b fine t).0 ((at_front w plan listed b fine t).1 t) (all-part plan t)
            (counts_other κ w r c reply t e) (counts_grow κ w r c reply) (λ o u q k i h. stepped.kept o k (λ f. e (sym i ∙ f)) ∙ h) (all t) in
            subst (λ p. Own κ' next_w p t (part next t) (new_listed t) (more_spent spent s t)) (sym (new.1 t ∙ stepped.stay t e ∙ first.1 t))
            (subst (λ l. Own κ' next_w (b.marks t).phase t l (new_listed t) (more_spent spent s t)) (sym (same_elsewhere plan listed call (calls es) left spelt t e))
            (subst₂ (λ l v. Own κ' next_w (b.marks t).phase t (part plan t) l v) (sym (listing_there listed s t mid.listed e)) (sym (cond-false (eqb t s) (1 + spent t) (spent t) (ne_eqb t s e))) moved))
      ]
