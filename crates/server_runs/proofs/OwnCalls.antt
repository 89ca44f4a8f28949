-- Calls that are a plan's next commands, one after the other, spell the plan.
use Rattle.std.proofs.Common.{◌≡◌, ℕ, suc, ◌+◌, true, false, cond, eqb, List, [], ◌∷◌, ◌++◌, length, Option, Some, None, sym, refl, ap, ◌∙◌, subst, inl, inr, arith, add-zero, append_assoc}
use Rattle.std.proofs.lemmas.Bool.{true≢false}
use Rattle.cluster_admin.specs.declared.admin.AdminCommand.TheVariants.{KeysIn}
use Rattle.cluster_admin.specs.declared.admin.AdminReply.{AdminReply}
use Rattle.cluster_admin.specs.declared.admin.AdminReply.TheVariants.{Ok, NoKey, Keys, Refused}
use Rattle.cluster_admin.specs.declared.call.AdminCall.{AdminCall}
use Rattle.plan_language.specs.declared.plan_command.PlanCommand.{PlanCommand}
use Rattle.plan_language.specs.declared.plan_command.PlanCommand.TheVariants as planned
use Rattle.plan_runner.specs.Advancing.{Goes, IsPending, runs_on}
use Rattle.plan_runner.specs.Finishing.{IsOpen}
use Rattle.plan_runner.specs.PlanStates.{Left, after, plan_after, plan_with}
use Rattle.plan_runner.specs.ProgressView.{Progress, Waits, left_of, waits}
use Rattle.plan_runner.specs.declared.plan_state.PlanState.{PlanState}
use Rattle.plan_runner.specs.declared.plan_state.PlanState.TheVariants.{Running, Done, Stopped}
use Rattle.plan_runner.specs.declared.stop_cause.StopCause.TheVariants as causes
use Rattle.plan_runner.proofs.Going.{no_run_stop}
use Rattle.plan_runner.proofs.Spelling.{some_is}
use Rattle.plan_runner.proofs.Taking.{taking_spells}
use Rattle.plan_semantics.specs.Driving.{Remaining, Spelled, Spells, StopsAtRefusal, called, is_refused, remaining}
use Rattle.plan_semantics.specs.Orders.{sending}
use Rattle.plan_semantics.specs.Unrolling.{IsPrefix, Unrolls}
use Rattle.plan_semantics.specs.declared.order.Order.{Order}
use Rattle.server_runs.proofs.Listing.{AllListKeys, ListsKeys}
use Rattle.server_runs.specs.PlanCalls.{AreNext, replies_in}
use Rattle.cluster_admin.specs.Keys.{Key}

-- ---- what one call spells

none_sent : (s : Order) → None ≡ Some s → ⊥
none_sent s e = cc

-- the next command spells something of what is left, whatever the reply to it is, if a listing was answered with keys
spells_some : (rest : List PlanCommand) (listed : Option (List Key)) (s : Order) (reply : AdminReply)
    → IsOpen rest listed → sending rest listed ≡ Some s → ListsKeys s.command reply
    → (left : Remaining) × Spells (remaining rest listed) (called s.node s.command reply) left
spells_some [] listed s reply o e l = absurd (none_sent s e)
spells_some (planned.Importing s' m at ∷ rest) None s reply o e l = let g = sym (some_is e) in
    (remaining rest None, (ap (λ x. x.node) g, ap (λ x. x.command) g, refl, refl))
spells_some (planned.Migrating s' m at ∷ rest) None s reply o e l = let g = sym (some_is e) in
    (remaining rest None, (ap (λ x. x.node) g, ap (λ x. x.command) g, refl, refl))
spells_some (planned.SetNode s' m at ∷ rest) None s reply o e l = let g = sym (some_is e) in
    (remaining rest None, (ap (λ x. x.node) g, ap (λ x. x.command) g, refl, refl))
spells_some (planned.Stable s' at ∷ rest) None s reply o e l = let g = sym (some_is e) in
    (remaining rest None, (ap (λ x. x.node) g, ap (λ x. x.command) g, refl, refl))
spells_some (planned.Importing s' m at ∷ rest) (Some ks) s reply o e l = absurd o
spells_some (planned.Migrating s' m at ∷ rest) (Some ks) s reply o e l = absurd o
spells_some (planned.SetNode s' m at ∷ rest) (Some ks) s reply o e l = absurd o
spells_some (planned.Stable s' at ∷ rest) (Some ks) s reply o e l = absurd o
spells_some (planned.Drain s' m t b ∷ rest) (Some ks) s reply o e l = let g = sym (some_is e) in
    (remaining (planned.Drain s' m t b ∷ rest) None, (ap (λ x. x.node) g, ap (λ x. x.command) g, refl, refl))
spells_some (planned.Drain s' m t b ∷ rest) None s reply o e l =
    let k : ListsKeys (KeysIn s' b) reply = subst (λ (x : Order). ListsKeys x.command reply) (sym (some_is e)) l in
    by k.0 k.1
  where
    by : (ks : List Key) → reply ≡ Keys ks
        → (left : Remaining)
        × Spells (remaining (planned.Drain s' m t b ∷ rest) None) (called s.node s.command reply) left
    by [] r = let g = sym (some_is e) in
        (remaining rest None, (ap (λ x. x.node) g, ap (λ x. x.command) g, inl (r, refl, refl)))
    by (k ∷ ks) r = let g = sym (some_is e) in (
      remaining (planned.Drain s' m t b ∷ rest) (Some (k ∷ ks)),
      (ap (λ x. x.node) g, ap (λ x. x.command) g, inr (k, ks, r, refl, refl)),
    )

-- a plan continues after no refusal
goes_on : (w : Waits) (reply : AdminReply) (q : Progress) → plan_after w reply ≡ Running q → is_refused reply ≡ true → ⊥
goes_on w (Refused f) q e r = no_run_stop q (causes.Refused (w.spent + 1) f) (w.spent + 1) (sym e)
goes_on w Ok q e r = true≢false (sym r)
goes_on w NoKey q e r = true≢false (sym r)
goes_on w (Keys ks) q e r = true≢false (sym r)

-- ---- what they all spell

-- they spell something of what is left, and none follows a refused one
pub record AreSpelt (p : Progress) (cs : List AdminCall) : Type 0 where
  pub left : Remaining
  pub spelled : Spelled (left_of p) cs left
  pub stops : StopsAtRefusal cs

pub next_spelt : (p : Progress) (cs : List AdminCall) → IsOpen p.rest p.listed → AreNext p cs → AllListKeys cs
    → AreSpelt p cs
next_spelt p [] o n l = record { left = left_of p; spelled = (refl, refl); stops = tt }
next_spelt p (c ∷ cs) o n l = by (plan_after (waits p) c.reply) refl (λ q. next_spelt q cs) n.1
  where
    s : Order
    s = n.0.0

    over : (left : Remaining) → Spells (left_of p) (called s.node s.command c.reply) left → Spells (left_of p) c left
    over left h = subst (λ x. Spells (left_of p) (called x c.command c.reply) left) (sym n.0.2)
        (subst (λ x. Spells (left_of p) (called s.node x c.reply) left) (sym n.0.3) h)

    ends : cs ≡ [] → AreSpelt p (c ∷ cs)
    ends none =
        let keys : ListsKeys s.command c.reply = subst (λ x. ListsKeys x c.reply) n.0.3 l.0 in
        let t = spells_some p.rest p.listed s c.reply o n.0.1 keys in
        record {
          left = t.0;
          spelled = (t.0, over t.0 t.1, subst (λ xs. Spelled t.0 xs t.0) (sym none) (refl, refl));
          stops = ((λ r. none), subst StopsAtRefusal (sym none) tt);
        }

    by : (j : PlanState) → plan_after (waits p) c.reply ≡ j
        → ((q : Progress) → IsOpen q.rest q.listed → AreNext q cs → AllListKeys cs → AreSpelt q cs)
        → runs_on j (λ q. AreNext q cs) (λ j. cs ≡ []) → AreSpelt p (c ∷ cs)
    by (Running q) e more h =
        let t = taking_spells p q s c.reply o n.0.1 e in
        let m = more q t.1 h l.1 in
        record {
          left = m.left;
          spelled = (left_of q, over (left_of q) t.0, m.spelled);
          stops = ((λ r. absurd (goes_on (waits p) c.reply q e r)), m.stops);
        }
    by (Done k) e more h = ends h
    by (Stopped cause k) e more h = ends h

-- ---- which calls are next

pub goes_next : (p : Progress) (cs : List AdminCall) (end : PlanState) → Goes p cs end → AreNext p cs
goes_next p [] end g = tt
goes_next p (c ∷ cs) end g = (g.0, on (plan_after (waits p) c.reply) (λ q. goes_next q cs end) g.1)
  where
    on : (j : PlanState) → ((q : Progress) → Goes q cs end → AreNext q cs)
        → runs_on j (λ q. Goes q cs end) (λ j. (cs ≡ []) × (end ≡ j)) → runs_on j (λ q. AreNext q cs) (λ j. cs ≡ [])
    on (Running q) more h = more q h
    on (Done n) more h = h.0
    on (Stopped cause n) more h = h.0

-- so are those before a command that is pending
pub pending_next : (p : Progress) (cs : List AdminCall) (s : Order) → IsPending p cs s → AreNext p cs
pending_next p [] s h = tt
pending_next p (c ∷ cs) s h = (h.0, on (plan_after (waits p) c.reply) (λ q. pending_next q cs s) h.1)
  where
    on : (j : PlanState) → ((q : Progress) → IsPending q cs s → AreNext q cs)
        → runs_on j (λ q. IsPending q cs s) (λ j. ⊥) → runs_on j (λ q. AreNext q cs) (λ j. cs ≡ [])
    on (Running q) more h = more q h
    on (Done n) more h = absurd h
    on (Stopped cause n) more h = absurd h

-- and the command that is next after them, whatever its reply is
pub next_more : (p : Progress) (cs : List AdminCall) (s : Order) (reply : AdminReply) → AreNext p cs → IsPending p cs s
    → AreNext p (cs ++ called s.node s.command reply ∷ [])
next_more p [] s reply n pending = ((s, pending, refl, refl), ends (plan_after (waits p) reply))
  where
    ends : (j : PlanState) → runs_on j (λ q. AreNext q []) (λ j. ◌≡◌ {A = List AdminCall} [] [])
    ends (Running q) = tt
    ends (Done n) = refl
    ends (Stopped cause n) = refl
next_more p (c ∷ cs) s reply n pending =
    (n.0, on (plan_after (waits p) c.reply) (λ q. next_more q cs s reply) n.1 pending.1)
  where
    on : (j : PlanState)
        → ((q : Progress) → AreNext q cs → IsPending q cs s → AreNext q (cs ++ called s.node s.command reply ∷ []))
        → runs_on j (λ q. AreNext q cs) (λ j. cs ≡ []) → runs_on j (λ q. IsPending q cs s) (λ j. ⊥)
        → runs_on j (λ q. AreNext q (cs ++ called s.node s.command reply ∷ []))
        (λ j. cs ++ called s.node s.command reply ∷ [] ≡ [])
    on (Running q) more h g = more q h g
    on (Done k) more h g = absurd g
    on (Stopped cause k) more h g = absurd g

-- ---- how many they are

left_counted : (n : ℕ) (o : Option Left) (spent most : ℕ) → replies_in (plan_with n o spent most) ≡ spent
left_counted n None spent most = refl
left_counted n (Some ([], listed)) spent most = refl
left_counted n (Some (o ∷ rest, listed)) spent most =
    let p : Progress = record { nodes = n; rest = o ∷ rest; listed = listed; spent = spent; most = most } in
    elim (eqb spent most) as (λ b. replies_in (cond b (Stopped causes.Limit spent) (Running p)) ≡ spent) [
      | true ↦ refl
      | false ↦ refl
    ]

pub reply_counted : (w : Waits) (reply : AdminReply) → replies_in (plan_after w reply) ≡ w.spent + 1
reply_counted w (Refused f) = refl
reply_counted w Ok = left_counted w.nodes (after w.rest w.open_still Ok) (w.spent + 1) w.most
reply_counted w NoKey = left_counted w.nodes (after w.rest w.open_still NoKey) (w.spent + 1) w.most
reply_counted w (Keys ks) = left_counted w.nodes (after w.rest w.open_still (Keys ks)) (w.spent + 1) w.most

none_after : (cs : List AdminCall) (total n spent : ℕ) → cs ≡ [] → total ≡ n → n ≡ spent + 1
    → total ≡ spent + suc (length cs)
none_after cs total n spent none is one = omega (arith, is, one, ap length none)

some_after : (total spent spent' calls : ℕ) → total ≡ spent' + calls → spent' ≡ spent + 1 → total ≡ spent + suc calls
some_after total spent spent' calls is one = omega (arith, is, one)

-- each reply that was taken is one of theirs
pub goes_counted : (p : Progress) (cs : List AdminCall) (end : PlanState) → Goes p cs end
    → replies_in end ≡ p.spent + length cs
goes_counted p [] end (inl u) = ap replies_in u.1 ∙ sym (add-zero p.spent)
goes_counted p [] end (inr u) = ap replies_in u.2 ∙ sym (add-zero p.spent)
goes_counted p (c ∷ cs) end g =
    on (plan_after (waits p) c.reply) (reply_counted (waits p) c.reply) (λ q. goes_counted q cs end) g.1
  where
    on : (j : PlanState) → replies_in j ≡ p.spent + 1
        → ((q : Progress) → Goes q cs end → replies_in end ≡ q.spent + length cs)
        → runs_on j (λ q. Goes q cs end) (λ j. (cs ≡ []) × (end ≡ j)) → replies_in end ≡ p.spent + length (c ∷ cs)
    on (Running q) one more h = some_after (replies_in end) p.spent q.spent (length cs) (more q h) one
    on (Done n) one more h = none_after cs (replies_in end) n p.spent h.0 (ap replies_in h.1) one
    on (Stopped cause n) one more h = none_after cs (replies_in end) n p.spent h.0 (ap replies_in h.1) one

-- ---- a beginning of them

pub front_prefix : (plan : List PlanCommand) (front later : List AdminCall) → IsPrefix plan (front ++ later)
    → IsPrefix plan front
front_prefix plan front later prefix =
    (later ++ prefix.0, subst (Unrolls plan) (append_assoc front later prefix.0) prefix.1)

none_in_front : (front later : List AdminCall) → front ++ later ≡ [] → front ≡ []
none_in_front [] later e = refl
none_in_front (c ∷ cs) later e = cc

pub front_stops : (front later : List AdminCall) → StopsAtRefusal (front ++ later) → StopsAtRefusal front
front_stops [] later stops = tt
front_stops (c ∷ cs) later stops = ((λ r. none_in_front cs later (stops.0 r)), front_stops cs later stops.1)
