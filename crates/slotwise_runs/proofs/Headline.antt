-- The headline slot by slot, put together.
use Rattle.std.proofs.Common.{◌≡◌, ◌≢◌, ◌⊎◌, ℕ, cond, eqb, ◌<◌, ◌≤◌, List, [], ◌∷◌, length, Option, None, Some, sym, refl, ap, ◌∙◌, subst, arith, inl, inr}
use Rattle.std.proofs.lemmas.Bool.{cases_eq, cond-true, cond-false, eq-eqb, ne_eqb}
use Rattle.cluster_admin.specs.Phases as phase
use Rattle.cluster_admin.specs.Phases.{Phases}
use Rattle.cluster_admin.specs.declared.call.AdminCall.{AdminCall}
use Rattle.cluster_world.specs.AdminCalls.{calls}
use Rattle.cluster_world.specs.Cleanness.{Clean}
use Rattle.cluster_world.specs.Honesty.{Honest, past_of}
use Rattle.cluster_world.specs.Openness.{HasPhaseAt}
use Rattle.cluster_world.specs.Servers.{ServerRun}
use Rattle.cluster_world.specs.Serving.{served, store_after}
use Rattle.cluster_world.specs.Worlds.{World}
use Rattle.cluster_world.specs.declared.event.Event.{Event}
use Rattle.plan_language.specs.declared.plan_command.PlanCommand.{PlanCommand}
use Rattle.plan_semantics.specs.Costs.{Counts, none_passed}
use Rattle.plan_semantics.specs.Driving.{Remaining, Spelled, remaining, whole}
use Rattle.plan_semantics.specs.Plans.{IsFinal, Legal, final_owner, part}
use Rattle.plan_semantics.specs.Unrolling.{Unrolls}
use Rattle.plan_semantics.proofs.Unrolling.{spelled_by_prefixes}
use Rattle.reshard_theorem.specs.Counts.{counts, first_counts}
use Rattle.reshard_theorem.specs.Starts.{Reshard, Starts}
use Rattle.reshard_theorem.proofs.Base.{Base, Inv, ListedOk}
use Rattle.reshard_theorem.proofs.Begins.{start}
use Rattle.reshard_theorem.proofs.Nexts.{spells_same}
use Rattle.store_commands.specs.Store.{Key}
use Rattle.reshard_theorem.proofs.Slotwise.{IsClean}
use Rattle.reshard_theorem.proofs.Spending.{count, first_ok}
use Rattle.reshard_theorem.proofs.Phases.{CountOk}
use Rattle.reshard_theorem.proofs.Stops.{is_left_open, stopped_in}
use Rattle.reshard_theorem.proofs.Tables.{by_nodes, final_is}
use Rattle.reshard_theorem.proofs.Whole.{finished}
use Rattle.telling_order.specs.AnyOrder.{TellsInAnyOrder}
use Rattle.telling_order.proofs.Owners.{same_owner}
use Rattle.telling_order.proofs.Plans.{are_as_good, starts_so}
use Rattle.slotwise_runs.specs.Headline.{HeadlineBySlots, HeadlineInAnyOrderOfSlots, IsLeftOpen}
use Rattle.slotwise_runs.specs.Seen.{AreSeenOfEachSlot, UnrollsEachSlot, of_slot}
use Rattle.slotwise_runs.proofs.Ends.{closed_at_end, next_of_slot, rests, rests_are_legal, rests_end}
use Rattle.slotwise_runs.proofs.Keeping.{AreOpen, Kept, Listings, SpelledEach, run_keeps}
use Rattle.slotwise_runs.proofs.Parts.{all-part, none_left, without}
use Rattle.slotwise_runs.proofs.Spends.{AllOwn, Own, Spent, at_front, due_le, run_spends}
use Rattle.slotwise_runs.proofs.Sums.{within_together}

-- what is left is determined
spelled_same : (cs : List AdminCall) (from a b : Remaining) → Spelled from cs a → Spelled from cs b → (a.rest ≡ b.rest) × (a.listed ≡ b.listed)
spelled_same [] from a b g h = (g.0 ∙ sym h.0, g.1 ∙ sym h.1)
spelled_same (c ∷ cs) from a b g h =
    let e = spells_same from.rest from.listed c.node c.command c.reply g.0.rest h.0.rest g.0.listed h.0.listed g.1 h.1 in
    spelled_same cs h.0 a b (subst (λ m. Spelled m cs a) (λ i. remaining (e.0 i) (e.1 i)) g.2) h.2

none_listed : Listings
none_listed s = None

module _ (reshard : Reshard) (events : List Event) (last : World) (starts : Starts reshard) (run : ServerRun reshard.first events last)
    (seen : AreSeenOfEachSlot reshard.plan (calls events)) (honest : Honest reshard.first reshard.before events) where
  abbrev n : ℕ
  n = length reshard.first.nodes

  abbrev goal : ℕ → ℕ
  goal = final_owner reshard.plan reshard.phases

  abbrev cs : List AdminCall
  cs = calls events

  abbrev first : Inv (length reshard.first.nodes) (final_owner reshard.plan reshard.phases) reshard.first reshard.before reshard.plan None reshard.store
  first = start reshard starts

  none_open : AreOpen reshard.plan none_listed
  unfolding none_listed
  none_open s = tt

  each : (s : ℕ) → (left : Remaining) × Spelled (whole (part reshard.plan s)) (of_slot s cs) left
  each s = (spelled_by_prefixes (part reshard.plan s) (of_slot s cs)).0.0 (seen s).0

  left : ℕ → Remaining
  left s = (each s).0

  spelt : SpelledEach reshard.plan none_listed cs left
  unfolding none_listed left
  spelt s = (each s).1

  kept_to : (left' : ℕ → Remaining) → SpelledEach reshard.plan none_listed cs left' → Kept n goal last left' reshard.store reshard.before events
  kept_to left' h = run_keeps n goal events reshard.first last reshard.before reshard.plan none_listed reshard.store left' first none_open run h honest

  kept : Kept n goal last left reshard.store reshard.before events
  kept = kept_to left spelt

  -- ---- the cost

  abbrev κ : Counts
  κ = first_counts reshard.first reshard.plan

  owns : AllOwn n goal (part reshard.plan) κ reshard.first reshard.plan none_listed first.base none_passed
  unfolding none_listed
  owns s =
      let ok : CountOk (κ s) 0 (count reshard.first s) (first.base.marks s).phase =
      first_ok n (goal s) s reshard.first (first.base.marks s).phase (part reshard.plan s) (first.base.marks s).left in
      let front = at_front n goal (part reshard.plan) reshard.first reshard.plan none_listed first.base none_open s in
      record {
        passed = none_passed;
        ok = ok;
        behind = λ x. 0;
        splits = λ x. omega arith;
        grows = λ x y g. omega arith;
        paid = (let d = due_le n goal (part reshard.plan) none_passed κ reshard.first s (part reshard.plan s) (without s reshard.plan) front.0 (all-part reshard.plan s)
            (subst (λ p. CountOk (κ s) 0 (count reshard.first s) p) (sym (front.1 s)) ok) in omega (arith, d));
      }

  spends : Spent n goal (part reshard.plan) κ reshard.first events none_passed
  spends = run_spends n goal (part reshard.plan) events κ reshard.first last reshard.plan none_listed left none_passed first.base none_open owns run spelt kept.no_refusal

  -- ---- a slot that is at its end

  closed : (s : ℕ) → Unrolls (part reshard.plan s) (of_slot s cs) → HasPhaseAt last s (phase.Closed (goal s))
  unfolding none_listed
  closed s done =
      let at_end : ℕ → Remaining = λ t. cond (eqb t s) (whole []) (left t) in
      let k : Kept n goal last at_end reshard.store reshard.before events = kept_to at_end (λ t. elim (cases_eq t s) [
        | inl e ↦ subst (Spelled (whole (part reshard.plan t)) (of_slot t cs)) (sym (cond-true (eqb t s) (whole []) (left t) (eq-eqb t s e)))
            (subst (λ u. Spelled (whole (part reshard.plan u)) (of_slot u cs) (whole [])) (sym e) ((spelled_by_prefixes (part reshard.plan s) (of_slot s cs)).1.0 done))
        | inr e ↦ subst (Spelled (whole (part reshard.plan t)) (of_slot t cs)) (sym (cond-false (eqb t s) (whole []) (left t) (ne_eqb t s e))) (spelt t)
      ]) in
      closed_at_end n goal last (past_of reshard.before events) k.plan (store_after reshard.store (served events)) k.inv s
      (sym (k.rests s) ∙ ap (λ r. r.rest) (cond-true (eqb s s) (whole []) (left s) (eq-eqb s s refl)))

  clean : UnrollsEachSlot reshard.plan cs → (final : List ℕ) → IsFinal reshard.plan reshard.phases final
      → Clean last final (store_after reshard.store (served events))
  unfolding none_listed
  clean done final f =
      let k : Kept n goal last (λ s. whole []) reshard.store reshard.before events =
      kept_to (λ s. whole []) (λ s. (spelled_by_prefixes (part reshard.plan s) (of_slot s cs)).1.0 (done s)) in
      let end : Inv n goal last (past_of reshard.before events) [] None (store_after reshard.store (served events)) =
      subst (λ p. Inv n goal last (past_of reshard.before events) p None (store_after reshard.store (served events))) (none_left k.plan (λ s. sym (k.rests s))) k.inv in
      let c : IsClean last n goal (store_after reshard.store (served events)) = finished n goal last (past_of reshard.before events) (store_after reshard.store (served events)) end in
      by_nodes last n final goal (store_after reshard.store (served events)) f.width (final_is last n reshard.plan reshard.phases final (store_after reshard.store (served events)) c f) c

  left_open : IsLeftOpen reshard events last
  left_open =
      let past = past_of reshard.before events in
      let store = store_after reshard.store (served events) in
      record {
        now = stopped_in n goal last past kept.plan None store kept.inv;
        is_open = is_left_open n goal last past kept.plan None store kept.inv;
        rests = rests n goal last past kept.plan store kept.inv;
        legal = subst (Legal 3 (rests n goal last past kept.plan store kept.inv) (stopped_in n goal last past kept.plan None store kept.inv)) (sym kept.inv.base.size)
            (rests_are_legal n goal last past kept.plan store kept.inv);
        owners = rests_end n goal last past kept.plan store kept.inv;
      }

  leaves : (s : ℕ) → Spelled (whole (part reshard.plan s)) (of_slot s cs) (remaining (part kept.plan s) (kept.listed s))
  unfolding none_listed
  leaves s = same (left s) (kept.rests s) (kept.listings s) (spelt s)
    where
      same : (l : Remaining) → l.rest ≡ part kept.plan s → l.listed ≡ kept.listed s → Spelled (whole (part reshard.plan s)) (of_slot s cs) l
          → Spelled (whole (part reshard.plan s)) (of_slot s cs) (remaining (part kept.plan s) (kept.listed s))
      same l a b h = subst (Spelled (whole (part reshard.plan s)) (of_slot s cs)) (λ i. remaining (a i) (b i)) h

  -- the part of a slot is carried out, or something is left of it
  pub done_or_not : (s : ℕ) → Unrolls (part reshard.plan s) (of_slot s cs) ⊎ (Unrolls (part reshard.plan s) (of_slot s cs) → ⊥)
  done_or_not s = by (part kept.plan s) (kept.listed s) (kept.are_open s) (leaves s)
    where
      by : (rest : List PlanCommand) (listed : Option (List Key)) → ListedOk rest listed → Spelled (whole (part reshard.plan s)) (of_slot s cs) (remaining rest listed)
          → Unrolls (part reshard.plan s) (of_slot s cs) ⊎ (Unrolls (part reshard.plan s) (of_slot s cs) → ⊥)
      by [] None fine h = inl ((spelled_by_prefixes (part reshard.plan s) (of_slot s cs)).1.1 h)
      by [] (Some ks) fine h = absurd fine
      by (o ∷ rest) listed fine h = inr (λ done.
          some (spelled_same (of_slot s cs) (whole (part reshard.plan s)) (remaining (o ∷ rest) listed) (whole []) h ((spelled_by_prefixes (part reshard.plan s) (of_slot s cs)).1.0 done)).0)
        where
          some : o ∷ rest ≡ [] → ⊥
          some e = cc

  pub by_slots : HeadlineBySlots reshard reshard.plan events last
  by_slots = record {
    no_refusal = kept.no_refusal;
    within_cost = within_together (counts κ reshard.first events) reshard.plan cs (λ s. (let g = spends.within s in omega (arith, g)));
    replies_replay = kept.replies;
    one_store = kept.inv.split;
    source_gains_nothing = spends.gains;
    closed = closed;
    clean_end = clean;
    goes_on = λ s unfinished.
        next_of_slot n goal last reshard.plan kept.plan events s (kept.listed s) kept.inv.base (kept.are_open s) kept.no_refusal seen
        (leaves s) unfinished;
    left_open = left_open;
  }

-- ---- other nodes told in another order

owner_same : (phases : Phases) (plan other : List PlanCommand) (between : List (List PlanCommand)) → TellsInAnyOrder phases plan between other → (s : ℕ)
    → final_owner other phases s ≡ final_owner plan phases s
owner_same phases plan other [] is s = ap (λ l. final_owner l phases s) is
owner_same phases plan other (next ∷ more) is s = owner_same phases next other more is.1 s ∙ same_owner phases plan next is.0 s

pub in_any_order_of_slots : HeadlineInAnyOrderOfSlots
in_any_order_of_slots reshard events last r =
    let other = r.seen.as_told in
    let good = are_as_good reshard other r.seen.between events r.seen.tells in
    let same : (s : ℕ) → final_owner other reshard.phases s ≡ final_owner reshard.plan reshard.phases s = owner_same reshard.phases reshard.plan other r.seen.between r.seen.tells in
    let h : HeadlineBySlots (record reshard { plan = other }) other events last =
    by_slots (record reshard { plan = other }) events last (starts_so reshard other r.seen.between r.seen.tells r.starts) r.run r.seen.slots r.honest in
    record {
      no_refusal = h.no_refusal;
      within_cost = subst (λ k. length (calls events) ≤ k) good.cost h.within_cost;
      replies_replay = h.replies_replay;
      one_store = h.one_store;
      source_gains_nothing = h.source_gains_nothing;
      closed = λ s done. subst (λ o. HasPhaseAt last s (phase.Closed o)) (same s) (h.closed s done);
      clean_end = λ done final f. h.clean_end done final (good.owners final f);
      goes_on = h.goes_on;
      left_open = record {
        now = h.left_open.now;
        is_open = h.left_open.is_open;
        rests = h.left_open.rests;
        legal = h.left_open.legal;
        owners = λ s. h.left_open.owners s ∙ same s;
      };
    }
