-- What calls make of a plan, one after the other.
use Rattle.std.proofs.Common.{◌≡◌, ℕ, suc, ◌+◌, List, [], ◌∷◌, ◌++◌, length, Option, Some, sym, refl, ap, ◌∙◌, subst}
use Rattle.std.proofs.Common.{inl, inr, arith, add-zero}
use Rattle.cluster_admin.specs.declared.call.AdminCall.{AdminCall}
use Rattle.plan_runner.specs.Advancing.{Goes, IsPending, runs_on}
use Rattle.plan_runner.specs.PlanStates.{plan_after}
use Rattle.plan_runner.specs.ProgressView.{Progress, waits}
use Rattle.plan_runner.specs.declared.plan_state.PlanState.{PlanState}
use Rattle.plan_runner.specs.declared.plan_state.PlanState.TheVariants.{Running, Done, Stopped}
use Rattle.plan_runner.specs.declared.stop_cause.StopCause.{StopCause}
use Rattle.plan_runner.proofs.Going.{no_run_done, no_run_stop, run_on}
use Rattle.plan_semantics.specs.Orders.{sending}
use Rattle.plan_semantics.specs.declared.order.Order.{Order}
use Rattle.server_runs.proofs.OwnCalls.{reply_counted}
use Rattle.server_runs.specs.InOneGo.{Takes, TakesFrom}
use Rattle.server_runs.specs.PlanCalls.{AreNext, replies_in}

running_is : {a b : Progress} → Running a ≡ Running b → a ≡ b
running_is e = cc

-- calls after calls
pub takes_on : (p q : Progress) (cs ds : List AdminCall) (j : PlanState) → Takes p cs (Running q) → Takes q ds j
    → Takes p (cs ++ ds) j
takes_on p q [] ds j h g = subst (λ (x : Progress). Takes x ds j) (running_is h) g
takes_on p q (c ∷ cs) ds j h g = (h.0, on (plan_after (waits p) c.reply) (λ x. takes_on x q cs ds j) h.1)
  where
    on : (k : PlanState) → ((x : Progress) → Takes x cs (Running q) → Takes q ds j → Takes x (cs ++ ds) j)
        → TakesFrom k cs (Running q) → TakesFrom k (cs ++ ds) j
    on (Running x) more f = more x f g
    on (Done n) more f = absurd (no_run_done q n f.1)
    on (Stopped cause n) more f = absurd (no_run_stop q cause n f.1)

-- each is next
pub takes_next : (p : Progress) (cs : List AdminCall) (j : PlanState) → Takes p cs j → AreNext p cs
takes_next p [] j h = tt
takes_next p (c ∷ cs) j h = (h.0, on (plan_after (waits p) c.reply) (λ x. takes_next x cs j) h.1)
  where
    on : (k : PlanState) → ((x : Progress) → Takes x cs j → AreNext x cs) → TakesFrom k cs j
        → runs_on k (λ q. AreNext q cs) (λ e. cs ≡ [])
    on (Running x) more f = more x f
    on (Done n) more f = f.0
    on (Stopped cause n) more f = f.0

-- the plan comes to its end by them, where it ends after them
pub takes_goes : (p : Progress) (cs : List AdminCall) (j end : PlanState) → Takes p cs j
    → runs_on j (λ q. Goes q [] end) (λ e. end ≡ e) → Goes p cs end
takes_goes p [] j end h g = subst (λ k. runs_on k (λ q. Goes q [] end) (λ e. end ≡ e)) h g
takes_goes p (c ∷ cs) j end h g = (h.0, on (plan_after (waits p) c.reply) (λ x. takes_goes x cs j end) h.1)
  where
    on : (k : PlanState)
        → ((x : Progress) → Takes x cs j → runs_on j (λ q. Goes q [] end) (λ e. end ≡ e) → Goes x cs end)
        → TakesFrom k cs j → runs_on k (λ q. Goes q cs end) (λ e. (cs ≡ []) × (end ≡ e))
    on (Running x) more f = more x f g
    on (Done n) more f = (f.0, subst (λ k. runs_on k (λ q. Goes q [] end) (λ e. end ≡ e)) f.1 g)
    on (Stopped cause n) more f = (f.0, subst (λ k. runs_on k (λ q. Goes q [] end) (λ e. end ≡ e)) f.1 g)

-- what is next then is pending after them
pub takes_pending : (p q : Progress) (cs : List AdminCall) (s : Order) → Takes p cs (Running q)
    → sending q.rest q.listed ≡ Some s → IsPending p cs s
takes_pending p q [] s h next = subst (λ (x : Progress). sending x.rest x.listed ≡ Some s) (running_is h) next
takes_pending p q (c ∷ cs) s h next = (h.0, on (plan_after (waits p) c.reply) (λ x. takes_pending x q cs s) h.1)
  where
    on : (k : PlanState)
        → ((x : Progress) → Takes x cs (Running q) → sending q.rest q.listed ≡ Some s → IsPending x cs s)
        → TakesFrom k cs (Running q) → runs_on k (λ x. IsPending x cs s) (λ e. ⊥)
    on (Running x) more f = more x f next
    on (Done n) more f = no_run_done q n f.1
    on (Stopped cause n) more f = no_run_stop q cause n f.1

none_more : (total spent : ℕ) → total ≡ spent → total ≡ spent + 0
none_more total spent e = e ∙ sym (add-zero spent)

some_more : (total spent spent' calls : ℕ) → total ≡ spent' + calls → spent' ≡ spent + 1 → total ≡ spent + suc calls
some_more total spent spent' calls is one = omega (arith, is, one)

last_one : (cs : List AdminCall) (total n spent : ℕ) → cs ≡ [] → total ≡ n → n ≡ spent + 1
    → total ≡ spent + suc (length cs)
last_one cs total n spent none is one = omega (arith, is, one, ap length none)

-- as many replies were taken
pub takes_counted : (p : Progress) (cs : List AdminCall) (j : PlanState) → Takes p cs j
    → replies_in j ≡ p.spent + length cs
takes_counted p [] j h = none_more (replies_in j) p.spent (ap replies_in h)
takes_counted p (c ∷ cs) j h =
    on (plan_after (waits p) c.reply) (reply_counted (waits p) c.reply) (λ x. takes_counted x cs j) h.1
  where
    on : (k : PlanState) → replies_in k ≡ p.spent + 1
        → ((x : Progress) → Takes x cs j → replies_in j ≡ x.spent + length cs)
        → TakesFrom k cs j → replies_in j ≡ p.spent + length (c ∷ cs)
    on (Running x) one more f = some_more (replies_in j) p.spent x.spent (length cs) (more x f) one
    on (Done n) one more f = last_one cs (replies_in j) n p.spent f.0 (ap replies_in f.1) one
    on (Stopped cause n) one more f = last_one cs (replies_in j) n p.spent f.0 (ap replies_in f.1) one

-- and the plan is of as many nodes, and takes as many replies at most
pub takes_kept : (p q : Progress) (cs : List AdminCall) → Takes p cs (Running q)
    → (q.nodes ≡ p.nodes) × (q.most ≡ p.most)
takes_kept p q [] h = (ap (λ (x : Progress). x.nodes) (running_is h), ap (λ (x : Progress). x.most) (running_is h))
takes_kept p q (c ∷ cs) h =
    on (plan_after (waits p) c.reply) refl (λ x. takes_kept x q cs) h.1
  where
    on : (k : PlanState) → plan_after (waits p) c.reply ≡ k
        → ((x : Progress) → Takes x cs (Running q) → (q.nodes ≡ x.nodes) × (q.most ≡ x.most))
        → TakesFrom k cs (Running q) → (q.nodes ≡ p.nodes) × (q.most ≡ p.most)
    on (Running x) e more f =
        let r = run_on p x c.reply e in
        let m = more x f in
        (m.0 ∙ r.0, m.1 ∙ r.1)
    on (Done n) e more f = absurd (no_run_done q n f.1)
    on (Stopped cause n) e more f = absurd (no_run_stop q cause n f.1)
