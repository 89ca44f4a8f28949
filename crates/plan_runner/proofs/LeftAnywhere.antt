-- The calls of a plan that is left anywhere.
use Rattle.std.proofs.Common.{◌≡◌, ◌⊎◌, ℕ, ◌+◌, suc, false, List, [], ◌∷◌, ◌++◌, length, arith, Option, Some, None, is_some, sym, refl, ap, ◌∙◌, subst, inl, inr, append-nil}
use Rattle.std.proofs.lemmas.Bool.{true≢false}
use Rattle.cluster_admin.specs.declared.admin.AdminCommand.TheVariants.{KeysIn}
use Rattle.cluster_admin.specs.declared.admin.AdminReply.{AdminReply}
use Rattle.cluster_admin.specs.declared.admin.AdminReply.TheVariants.{Ok, NoKey, Keys, Refused}
use Rattle.cluster_admin.specs.declared.call.AdminCall.{AdminCall}
use Rattle.plan_language.specs.declared.plan_command.PlanCommand.{PlanCommand}
use Rattle.plan_language.specs.declared.plan_command.PlanCommand.TheVariants as planned
use Rattle.plan_semantics.specs.Driving.{Remaining, Spelled, Spells, StopsAtRefusal, called, is_refused, remaining, whole}
use Rattle.plan_semantics.specs.Listed.{AreListed, IsListed}
use Rattle.plan_semantics.specs.Orders.{sending}
use Rattle.plan_semantics.specs.Unrolling.{IsPrefix}
use Rattle.plan_semantics.specs.declared.order.Order.{Order}
use Rattle.plan_semantics.proofs.Unrolling.{spelled_by_prefixes}
use Rattle.cluster_admin.specs.Keys.{Key}
use Rattle.plan_runner.specs.Advancing.{Goes, IsNext, IsPending, PortState, PortSteps, Runs, Sends, runs_on, stopped_by}
use Rattle.plan_runner.specs.Advancing.{waits}
use Rattle.plan_runner.specs.Finishing.{IsOpen}
use Rattle.plan_runner.specs.Leaving.{Comes, EndsUnlisted, HasSent, LeftIsPrefix, ListedIsPrefix, RunningIsSpelled}
use Rattle.plan_runner.specs.Leaving.{ComesOn, StopsUnlisted}
use Rattle.plan_runner.specs.PlanStates.{plan_after}
use Rattle.plan_runner.specs.ProgressView.{Progress, Waits, left_of}
use Rattle.plan_runner.specs.Watching.{RunsWatched, SendsWatched, WatchedSteps, both}
use Rattle.plan_runner.specs.declared.plan_state.PlanState.{PlanState}
use Rattle.plan_runner.specs.declared.plan_state.PlanState.TheVariants.{Running, Done, Stopped}
use Rattle.plan_runner.specs.declared.stop_cause.StopCause.{StopCause}
use Rattle.plan_runner.specs.declared.stop_cause.StopCause.TheVariants as causes
use Rattle.plan_runner.proofs.Going.{no_run_done, no_run_stop, run_on}
use Rattle.plan_runner.proofs.Spelling.{some_is}
use Rattle.plan_runner.proofs.Taking.{taking_spells}

-- ---- any command that gets a list where it asks for one is spelt, whatever the plan makes of its reply

none_sent : {o : Order} → None ≡ Some o → ⊥
none_sent e = cc

listed_reply : (rest : List PlanCommand) (s b m t : ℕ) (o : Order) (r : AdminReply) (ks : List Key) → r ≡ Keys ks
    → o ≡ record { node = m; command = KeysIn s b }
    → (left : Remaining) × Spells (remaining (planned.Drain s m t b ∷ rest) None) (called o.node o.command r) left
listed_reply rest s b m t o r [] e g =
    (remaining rest None, (ap (λ x. x.node) g, ap (λ x. x.command) g, inl (e, refl, refl)))
listed_reply rest s b m t o r (k ∷ ks) e g = (
  remaining (planned.Drain s m t b ∷ rest) (Some (k ∷ ks)),
  (ap (λ x. x.node) g, ap (λ x. x.command) g, inr (k, ks, e, refl, refl)),
)

spelt : (rest : List PlanCommand) (listed : Option (List Key)) (o : Order) (r : AdminReply) → IsOpen rest listed
    → sending rest listed ≡ Some o → IsListed o.command r
    → (left : Remaining) × Spells (remaining rest listed) (called o.node o.command r) left
spelt [] None o r open_first e l = absurd (none_sent e)
spelt [] (Some ks) o r open_first e l = absurd open_first
spelt (planned.Importing s m at ∷ rest) None o r open_first e l =
    let g = sym (some_is e) in (remaining rest None, (ap (λ x. x.node) g, ap (λ x. x.command) g, refl, refl))
spelt (planned.Importing s m at ∷ rest) (Some ks) o r open_first e l = absurd open_first
spelt (planned.Migrating s m at ∷ rest) None o r open_first e l =
    let g = sym (some_is e) in (remaining rest None, (ap (λ x. x.node) g, ap (λ x. x.command) g, refl, refl))
spelt (planned.Migrating s m at ∷ rest) (Some ks) o r open_first e l = absurd open_first
spelt (planned.SetNode s m at ∷ rest) None o r open_first e l =
    let g = sym (some_is e) in (remaining rest None, (ap (λ x. x.node) g, ap (λ x. x.command) g, refl, refl))
spelt (planned.SetNode s m at ∷ rest) (Some ks) o r open_first e l = absurd open_first
spelt (planned.Stable s at ∷ rest) None o r open_first e l =
    let g = sym (some_is e) in (remaining rest None, (ap (λ x. x.node) g, ap (λ x. x.command) g, refl, refl))
spelt (planned.Stable s at ∷ rest) (Some ks) o r open_first e l = absurd open_first
spelt (planned.Drain s m t b ∷ rest) (Some ks) o r open_first e l =
    let g = sym (some_is e) in
    (remaining (planned.Drain s m t b ∷ rest) None, (ap (λ x. x.node) g, ap (λ x. x.command) g, refl, refl))
spelt (planned.Drain s m t b ∷ rest) None o r open_first e l =
    let g = sym (some_is e) in
    let k = subst (λ (x : Order). IsListed x.command r) g l in
    listed_reply rest s b m t o r k.0 k.1 g

-- ---- and one that gets none stops the plan

no_list : (p : Progress) (rest : List PlanCommand) (listed : Option (List Key)) (o : Order) (r : AdminReply)
    → sending rest listed ≡ Some o
    → IsListed o.command r ⊎ ((IsListed o.command r → ⊥)
    × StopsUnlisted r (p.spent + 1) (plan_after (record { nodes = p.nodes; rest = rest; open_still = is_some listed; spent = p.spent; most = p.most }) r))
no_list p [] listed o r e = absurd (none_sent e)
no_list p (planned.Importing s m at ∷ rest) listed o r e = inl (subst (λ (x : Order). IsListed x.command r) (some_is e) tt)
no_list p (planned.Migrating s m at ∷ rest) listed o r e = inl (subst (λ (x : Order). IsListed x.command r) (some_is e) tt)
no_list p (planned.SetNode s m at ∷ rest) listed o r e = inl (subst (λ (x : Order). IsListed x.command r) (some_is e) tt)
no_list p (planned.Stable s at ∷ rest) listed o r e = inl (subst (λ (x : Order). IsListed x.command r) (some_is e) tt)
no_list p (planned.Drain s m t b ∷ rest) (Some ks) o r e = inl (subst (λ (x : Order). IsListed x.command r) (some_is e) tt)
no_list p (planned.Drain s m t b ∷ rest) None o Ok e =
    inr (subst (λ (x : Order). IsListed x.command Ok → ⊥) (some_is e) (λ l. no_keys l.0 l.1), refl)
  where
    no_keys : (ks : List Key) → Ok ≡ Keys ks → ⊥
    no_keys ks u = cc
no_list p (planned.Drain s m t b ∷ rest) None o NoKey e =
    inr (subst (λ (x : Order). IsListed x.command NoKey → ⊥) (some_is e) (λ l. no_keys l.0 l.1), refl)
  where
    no_keys : (ks : List Key) → NoKey ≡ Keys ks → ⊥
    no_keys ks u = cc
no_list p (planned.Drain s m t b ∷ rest) None o (Refused f) e =
    inr (subst (λ (x : Order). IsListed x.command (Refused f) → ⊥) (some_is e) (λ l. no_keys l.0 l.1), refl)
  where
    no_keys : (ks : List Key) → Refused f ≡ Keys ks → ⊥
    no_keys ks u = cc
no_list p (planned.Drain s m t b ∷ rest) None o (Keys ks) e =
    inl (subst (λ (x : Order). IsListed x.command (Keys ks)) (some_is e) (ks, refl))

-- ---- the calls

-- as a prefix, and as what is spelt of what is left
record EndsInVain (left : Remaining) (cs : List AdminCall) (j : PlanState) : Type 0 where
  front : List AdminCall
  last : AdminCall
  are : cs ≡ front ++ last ∷ []
  mid : Remaining
  spelled : Spelled left front mid
  unlisted : IsListed last.command last.reply → ⊥
  spent : ℕ
  stopped : StopsUnlisted last.reply spent j

abbrev Led : Remaining → List AdminCall → PlanState → Type 0
Led left cs j = StopsAtRefusal cs × (((last : Remaining) × Spelled left cs last) ⊎ EndsInVain left cs j)

-- a plan that runs on was not refused
pub fine_reply : (w : Waits) (q : Progress) (r : AdminReply) → plan_after w r ≡ Running q → is_refused r ≡ false
fine_reply w q Ok e = refl
fine_reply w q NoKey e = refl
fine_reply w q (Keys ks) e = refl
fine_reply w q (Refused f) e = absurd (no_run_stop q (causes.Refused (w.spent + 1) f) (w.spent + 1) (sym e))

-- the call is the order with its reply
same_call : (p : Progress) (c : AdminCall) (next : IsNext p c) → called next.0.node next.0.command c.reply ≡ c
same_call p c next = λ i. record { node = sym next.2 i; command = sym next.3 i; reply = c.reply }

-- one call in front
in_front : (p q : Progress) (c : AdminCall) (cs : List AdminCall) (j : PlanState) → is_refused c.reply ≡ false
    → Spells (left_of p) c (left_of q) → Led (left_of q) cs j → Led (left_of p) (c ∷ cs) j
in_front p q c cs j fine spells (stops, inl far) =
    ((λ e. absurd (true≢false (sym e ∙ fine)), stops), inl (far.0, (left_of q, spells, far.1)))
in_front p q c cs j fine spells (stops, inr v) = (
  (λ e. absurd (true≢false (sym e ∙ fine)), stops),
  inr (record {
    front = c ∷ v.front;
    last = v.last;
    are = ap (λ l. c ∷ l) v.are;
    mid = v.mid;
    spelled = (left_of q, spells, v.spelled);
    unlisted = v.unlisted;
    spent = v.spent;
    stopped = v.stopped;
  }),
)

-- the last call
at_last : (p : Progress) (c : AdminCall) (cs : List AdminCall) (j : PlanState) → IsOpen p.rest p.listed → (next : IsNext p c)
    → cs ≡ [] → j ≡ plan_after (waits p) c.reply → Led (left_of p) (c ∷ cs) j
at_last p c cs j open_first next none is = (
  (λ e. none, subst StopsAtRefusal (sym none) tt),
  elim (no_list p p.rest p.listed next.0 c.reply next.1) [
    | inl l ↦ (let h = spelt p.rest p.listed next.0 c.reply open_first next.1 l in
        inl (h.0, subst (λ l. Spelled (left_of p) (c ∷ l) h.0) (sym none) (h.0, subst (λ d. Spells (left_of p) d h.0) (same_call p c next) h.1, (refl, refl))))
    | inr v ↦ inr (record {
      front = [];
      last = c;
      are = ap (λ l. c ∷ l) none;
      mid = left_of p;
      spelled = (refl, refl);
      unlisted = λ l. v.0 (subst (λ k. IsListed k c.reply) next.3 l);
      spent = p.spent + 1;
      stopped = subst (StopsUnlisted c.reply (p.spent + 1)) (sym is) v.1;
    })
  ],
)

led : (p : Progress) (cs : List AdminCall) (j : PlanState) → IsOpen p.rest p.listed → Comes p cs j → Led (left_of p) cs j
led p [] j open_first h = (tt, inl (left_of p, (refl, refl)))
led p (c ∷ cs) j open_first h = by (plan_after (waits p) c.reply) refl (λ q. led q cs j) h.1
  where
    by : (i : PlanState) → plan_after (waits p) c.reply ≡ i
        → ((q : Progress) → IsOpen q.rest q.listed → Comes q cs j → Led (left_of q) cs j)
        → runs_on i (λ q. Comes q cs j) (λ i. (cs ≡ []) × (j ≡ i)) → Led (left_of p) (c ∷ cs) j
    by (Running q) e more g =
        let t = taking_spells p q h.0.0 c.reply open_first h.0.1 e in
        in_front p q c cs j (fine_reply (waits p) q c.reply e)
        (subst (λ d. Spells (left_of p) d (left_of q)) (same_call p c h.0) t.0) (more q t.1 g)
    by (Done n) e more g = at_last p c cs j open_first h.0 g.0 (g.1 ∙ sym e)
    by (Stopped cause n) e more g = at_last p c cs j open_first h.0 g.0 (g.1 ∙ sym e)

-- ---- what was sent

none_listed : (p : Progress) → p.listed ≡ None → left_of p ≡ whole p.rest
none_listed p e = ap (remaining p.rest) e

is_prefix : (plan : List PlanCommand) (cs : List AdminCall) (last : Remaining) → Spelled (whole plan) cs last → IsPrefix plan cs
is_prefix plan cs last s = (spelled_by_prefixes plan cs).0.1 (last, s)

pub left_is_prefix : LeftIsPrefix
left_is_prefix p cs j none h = by (led p cs j (subst (IsOpen p.rest) (sym none) tt) h)
  where
    by : Led (left_of p) cs j → StopsAtRefusal cs × (IsPrefix p.rest cs ⊎ EndsUnlisted p.rest cs j)
    by (stops, inl far) = (stops, inl (is_prefix p.rest cs far.0 (subst (λ l. Spelled l cs far.0) (none_listed p none) far.1)))
    by (stops, inr v) = (
      stops,
      inr (record {
        front = v.front;
        last = v.last;
        are = v.are;
        prefix = is_prefix p.rest v.front v.mid (subst (λ l. Spelled l v.front v.mid) (none_listed p none) v.spelled);
        unlisted = v.unlisted;
        spent = v.spent;
        stopped = v.stopped;
      }),
    )

last_listed : (front : List AdminCall) (c : AdminCall) → AreListed (front ++ c ∷ []) → IsListed c.command c.reply
last_listed [] c h = h.0
last_listed (x ∷ front) c h = last_listed front c h.1

pub listed_is_prefix : ListedIsPrefix
listed_is_prefix p cs j none h listed = by (left_is_prefix p cs j none h)
  where
    by : StopsAtRefusal cs × (IsPrefix p.rest cs ⊎ EndsUnlisted p.rest cs j) → IsPrefix p.rest cs × StopsAtRefusal cs
    by (stops, inl prefix) = (prefix, stops)
    by (stops, inr v) = absurd (v.unlisted (last_listed v.front v.last (subst AreListed v.are listed)))

-- ---- a plan that runs on

running_is : {a b : Progress} → Running a ≡ Running b → a ≡ b
running_is e = cc

stays : (p q : Progress) → Comes p [] (Running q) → q ≡ p
stays p q (inl e) = running_is e
stays p q (inr (inl e)) = absurd (no_run_stop q causes.Abandoned p.spent e)
stays p q (inr (inr (inl e))) = absurd (no_run_done q p.spent e.1)
stays p q (inr (inr (inr e))) = absurd (no_run_stop q (stopped_by e.0) p.spent e.2)

abbrev SpeltTo : Progress → List AdminCall → Progress → Type 0
SpeltTo p cs q = Spelled (left_of p) cs (left_of q) × (q.spent ≡ p.spent + length cs)

running : (p q : Progress) (cs : List AdminCall) → IsOpen p.rest p.listed → Comes p cs (Running q) → SpeltTo p cs q
running p q [] open_first h =
    let e = stays p q h in
    ((ap (λ x. x.rest) e, ap (λ x. x.listed) e), ap (λ x. x.spent) e ∙ sym (plain p.spent))
  where
    plain : (n : ℕ) → n + 0 ≡ n
    plain n = omega arith
running p q (c ∷ cs) open_first h = by (plan_after (waits p) c.reply) refl (λ r. running r q cs) h.1
  where
    by : (i : PlanState) → plan_after (waits p) c.reply ≡ i
        → ((r : Progress) → IsOpen r.rest r.listed → Comes r cs (Running q) → SpeltTo r cs q)
        → runs_on i (λ r. Comes r cs (Running q)) (λ i. (cs ≡ []) × (Running q ≡ i)) → SpeltTo p (c ∷ cs) q
    by (Running r) e more g =
        let t = taking_spells p r h.0.0 c.reply open_first h.0.1 e in
        let far = more r t.1 g in
        let on = (run_on p r c.reply e).2 in (
          (left_of r, subst (λ d. Spells (left_of p) d (left_of r)) (same_call p c h.0) t.0, far.0),
          count q.spent r.spent p.spent (length cs) far.1 on,
        )
      where
        count : (a b d n : ℕ) → a ≡ b + n → b ≡ d + 1 → a ≡ d + suc n
        count a b d n u v = omega arith
    by (Done n) e more g = absurd (no_run_done q n g.1)
    by (Stopped cause n) e more g = absurd (no_run_stop q cause n g.1)

pub running_is_spelled : RunningIsSpelled
running_is_spelled p q cs none h = running p q cs (subst (IsOpen p.rest) (sym none) tt) h

pub comes_on : ComesOn
comes_on p q [] ds j h g = subst (λ x. Comes x ds j) (stays p q h) g
comes_on p q (c ∷ cs) ds j h g = (h.0, by (plan_after (waits p) c.reply) (λ r k. comes_on r q cs ds j k g) h.1)
  where
    by : (i : PlanState) → ((r : Progress) → Comes r cs (Running q) → Comes r (cs ++ ds) j)
        → runs_on i (λ r. Comes r cs (Running q)) (λ i. (cs ≡ []) × (Running q ≡ i))
        → runs_on i (λ r. Comes r (cs ++ ds) j) (λ i. (cs ++ ds ≡ []) × (j ≡ i))
    by (Running r) more k = more r k
    by (Done n) more k = absurd (no_run_done q n k.1)
    by (Stopped cause n) more k = absurd (no_run_stop q cause n k.1)

-- ---- over a port

goes_comes : (p : Progress) (cs : List AdminCall) (j : PlanState) → Goes p cs j → Comes p cs j
goes_comes p [] j g = inr (inr g)
goes_comes p (c ∷ cs) j g = (g.0, by (plan_after (waits p) c.reply) (λ q. goes_comes q cs j) g.1)
  where
    by : (i : PlanState) → ((q : Progress) → Goes q cs j → Comes q cs j)
        → runs_on i (λ q. Goes q cs j) (λ i. (cs ≡ []) × (j ≡ i)) → runs_on i (λ q. Comes q cs j) (λ i. (cs ≡ []) × (j ≡ i))
    by (Running q) more h = more q h
    by (Done n) more h = h
    by (Stopped cause n) more h = h

-- a state that is reached by one reply
reached : (j : PlanState) → runs_on j (λ q. Comes q [] j) (λ i. (◌≡◌ {A = List AdminCall} [] []) × (j ≡ i))
reached (Running q) = inl refl
reached (Done n) = (refl, refl)
reached (Stopped cause n) = (refl, refl)

-- a plan that waits with its next command was given up
pending_comes : (p : Progress) (cs : List AdminCall) (s : Order) → IsPending p cs s
    → Comes p cs (Stopped causes.Abandoned (p.spent + length cs))
pending_comes p [] s h = inr (inl (ap (Stopped causes.Abandoned) (plain p.spent)))
  where
    plain : (n : ℕ) → n + 0 ≡ n
    plain n = omega arith
pending_comes p (c ∷ cs) s h = (h.0, by (plan_after (waits p) c.reply) refl (λ q. pending_comes q cs s) h.1)
  where
    j : PlanState
    j = Stopped causes.Abandoned (p.spent + length (c ∷ cs))

    by : (i : PlanState) → plan_after (waits p) c.reply ≡ i
        → ((q : Progress) → IsPending q cs s → Comes q cs (Stopped causes.Abandoned (q.spent + length cs)))
        → runs_on i (λ q. IsPending q cs s) (λ i. ⊥) → runs_on i (λ q. Comes q cs j) (λ i. (cs ≡ []) × (j ≡ i))
    by (Running q) e more g =
        subst (λ n. Comes q cs (Stopped causes.Abandoned n)) (count q.spent p.spent (length cs) (run_on p q c.reply e).2) (more q g)
      where
        count : (a d n : ℕ) → a ≡ d + 1 → a + n ≡ d + suc n
        count a d n u = omega arith
    by (Done n) e more g = absurd g
    by (Stopped cause n) e more g = absurd g

module _ {P : Type 0} (by : PortSteps P) where
  pub steps_are_sent : (first last : PortState P) (p : Progress) (j : PlanState)
      → Sends by first last p j → HasSent p first.calls last.calls j
  steps_are_sent first last p j (inl u) =
      record { calls = []; after_is = u.2 ∙ sym (append-nil first.calls); comes = inr (inr (inl (u.0, u.3))) }
  steps_are_sent first last p j (inr (inr u)) =
      record { calls = []; after_is = u.4 ∙ sym (append-nil first.calls); comes = inr (inr (inr (u.1, is_left p.rest p.listed u.0 u.2, u.5))) }
    where
      is_left : (rest : List PlanCommand) (listed : Option (List Key)) (s : Order) → sending rest listed ≡ Some s → rest ≡ [] → ⊥
      is_left [] listed s e = absurd (none_sent e)
      is_left (o ∷ rest) listed s e = λ i. cc
  steps_are_sent first last p j (inr (inl u)) =
      let c : AdminCall = record { node = u.0.node; command = u.0.command; reply = u.1 } in record {
        calls = c ∷ [];
        after_is = u.4;
        comes = (
          (u.0, u.2, refl, refl),
          subst (λ x. runs_on x (λ q. Comes q [] j) (λ i. (◌≡◌ {A = List AdminCall} [] []) × (j ≡ i))) u.5 (reached j),
        );
      }

  pub runs_are_sent : (first last : PortState P) (p : Progress) (end : PlanState)
      → Runs by first last p end → HasSent p first.calls last.calls end
  runs_are_sent first last p end runs =
      record { calls = runs.0; after_is = runs.2; comes = goes_comes p runs.0 end runs.3 }

module _ {P W : Type 0} (by : WatchedSteps P W) where
  pub watched_steps_are_sent : (first last : PortState (P × W)) (p : Progress) (j : PlanState)
      → SendsWatched by first last p j → HasSent p first.calls last.calls j
  watched_steps_are_sent first last p j (inl sends) =
      steps_are_sent (both by) first last p j sends
  watched_steps_are_sent first last p j (inr u) =
      record { calls = []; after_is = u.2 ∙ sym (append-nil first.calls); comes = inr (inl u.4) }

  pub watched_runs_are_sent : (first last : PortState (P × W)) (p : Progress) (end : PlanState)
      → RunsWatched by first last p end → HasSent p first.calls last.calls end
  watched_runs_are_sent first last p end (inl runs) =
      runs_are_sent (both by) first last p end runs
  watched_runs_are_sent first last p end (inr u) = record {
    calls = u.0;
    after_is = u.3;
    comes = subst (λ j. Comes p u.0 j) (sym u.7) (pending_comes p u.0 u.2 u.4);
  }
