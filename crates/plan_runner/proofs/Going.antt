-- A plan that runs continues, or ends.
use Rattle.std.proofs.Common.{◌≡◌, ◌≢◌, ℕ, ◌+◌, Bool, true, false, cond, eqb, List, [], ◌∷◌, ◌++◌, length, length-append, arith, Option, Some, None, sym, refl, ap, ◌∙◌, subst, inl, inr, append-nil, append_assoc}
use Rattle.std.proofs.lemmas.Bool.{eqb-false}
use Rattle.cluster_admin.specs.declared.admin.AdminReply.{AdminReply}
use Rattle.cluster_admin.specs.declared.admin.AdminReply.TheVariants.{Ok, NoKey, Keys, Refused}
use Rattle.cluster_admin.specs.declared.call.AdminCall.{AdminCall}
use Rattle.cluster_admin.specs.declared.port_fault.PortFault.{PortFault}
use Rattle.cluster_admin.specs.declared.port_fault.PortFault.TheVariants as fault
use Rattle.plan_runner.specs.ProgressView.{Progress, Waits}
use Rattle.plan_runner.specs.PlanStates.{Left, when_fine, after, plan_with, plan_after}
use Rattle.plan_runner.specs.Advancing.{PortSteps, waits, stopped_by, Sends, runs_on, Goes, IsPending, FaultShown, Runs}
use Rattle.plan_semantics.specs.Orders.{sending}
use Rattle.plan_semantics.specs.declared.order.Order.{Order}
use Rattle.plan_language.specs.declared.plan_command.PlanCommand.{PlanCommand}
use Rattle.cluster_admin.specs.Keys.{Key}
use Rattle.cluster_admin.specs.declared.admin.AdminCommand.{AdminCommand}
use Rattle.byte_texts.specs.Outcomes.{Chain}
use Rattle.plan_runner.proofs.Chaining.{chain-append}
use Rattle.plan_runner.specs.declared.plan_state.PlanState.{PlanState}
use Rattle.plan_runner.specs.declared.plan_state.PlanState.TheVariants.{Running, Done, Stopped}
use Rattle.plan_runner.specs.declared.stop_cause.StopCause.{StopCause}
use Rattle.plan_runner.specs.declared.stop_cause.StopCause.TheVariants as causes

-- an end of a plan
abbrev pub IsEnd : PlanState → Type 0
IsEnd j = runs_on j (λ q. ⊥) (λ j. Unit {0})

pub no_run_done : (q : Progress) (n : ℕ) → Running q ≡ Done n → ⊥
no_run_done q n e = cc

pub no_run_stop : (q : Progress) (c : StopCause) (n : ℕ) → Running q ≡ Stopped c n → ⊥
no_run_stop q c n e = cc

-- a plan that has a next command has something left
sending-some : (rest : List PlanCommand) (listed : Option (List Key)) (s : Order) → sending rest listed ≡ Some s → rest ≢ []
sending-some [] listed s e = cc
sending-some (o ∷ rest) listed s e = λ i. cc

-- the fault is shown at what is pending, by any other name for it
weaken : {P : Type 0} (fails : P → ℕ → AdminCommand → PortFault → P → Type 0) (at last : P) (some other : Order → Type 0) (end : PlanState) → ((s : Order) → some s → other s)
    → FaultShown fails at last some end → FaultShown fails at last other end
weaken fails at last some other (Running q) over h = h
weaken fails at last some other (Done n) over h = h
weaken fails at last some other (Stopped (causes.Refused number reason) n) over h = h
weaken fails at last some other (Stopped causes.Memory n) over h = (h.0, over h.0 h.1, h.2)
weaken fails at last some other (Stopped causes.Lost n) over h = (h.0, h.1, over h.0 h.2, h.3, h.4)
weaken fails at last some other (Stopped causes.StrangeReply n) over h = h
weaken fails at last some other (Stopped causes.Abandoned n) over h = h
weaken fails at last some other (Stopped causes.Limit n) over h = h

-- a plan that ran so, by one command at most
module _ {P : Type 0} (by : PortSteps P) where
  -- a plan that runs on was sent its next command
  pub sends_on : (first last : P) (p q : Progress) (before after : List AdminCall) (j : PlanState) → j ≡ Running q → Sends by (record { port = first; calls = before }) (record { port = last; calls = after }) p j
      → (c : AdminCall) × (after ≡ before ++ c ∷ []) × (plan_after (waits p) c.reply ≡ Running q) × ((cs : List AdminCall) (end : PlanState) → Goes q cs end → Goes p (c ∷ cs) end)
      × ((cs : List AdminCall) (s : Order) → IsPending q cs s → IsPending p (c ∷ cs) s) × Chain by.moves first (c ∷ []) last
  sends_on first last p q before after j e (inl u) = absurd (no_run_done q p.spent (sym e ∙ u.3))
  sends_on first last p q before after j e (inr (inr u)) = absurd (no_run_stop q (stopped_by u.1) p.spent (sym e ∙ u.5))
  sends_on first last p q before after j e (inr (inl u)) =
      let c : AdminCall = record { node = u.0.node; command = u.0.command; reply = u.1 } in
      let is : plan_after (waits p) u.1 ≡ Running q = sym u.5 ∙ e in (
        c,
        u.4,
        is,
        (λ cs end g. ((u.0, u.2, refl, refl), subst (λ x. runs_on x (λ q. Goes q cs end) (λ j. (cs ≡ []) × (end ≡ j))) (sym is) g)),
        (λ cs s h. ((u.0, u.2, refl, refl), subst (λ x. runs_on x (λ q. IsPending q cs s) (λ j. ⊥)) (sym is) h)),
        (last, u.3, refl),
      )

  replied_left : (at : P) (pending : Order → Type 0) (n : ℕ) (o : Option Left) (spent most : ℕ) → FaultShown by.fails at at pending (plan_with n o spent most)
  replied_left at pending n None spent most = refl
  replied_left at pending n (Some ([], listed)) spent most = refl
  replied_left at pending n (Some (o ∷ rest, listed)) spent most =
      elim (eqb spent most) as (λ b. FaultShown by.fails at at pending (cond b (Stopped causes.Limit spent) (Running (record { nodes = n; rest = o ∷ rest; listed = listed; spent = spent; most = most })))) [ true ↦ refl | false ↦ refl ]

  -- a reply is never taken for a fault of the port
  replied : (at : P) (pending : Order → Type 0) (w : Waits) (reply : AdminReply) → FaultShown by.fails at at pending (plan_after w reply)
  replied at pending w (Refused reason) = refl
  replied at pending w Ok = replied_left at pending w.nodes (after w.rest w.open_still Ok) (w.spent + 1) w.most
  replied at pending w NoKey = replied_left at pending w.nodes (after w.rest w.open_still NoKey) (w.spent + 1) w.most
  replied at pending w (Keys ks) = replied_left at pending w.nodes (after w.rest w.open_still (Keys ks)) (w.spent + 1) w.most

  -- a port that failed shows its fault
  shown : (first last : P) (p : Progress) (s : Order) (f : PortFault) → sending p.rest p.listed ≡ Some s → by.fails first s.node s.command f last
      → FaultShown by.fails first last (IsPending p []) (Stopped (stopped_by f) p.spent)
  shown first last p s fault.Memory e h = (s, e, h)
  shown first last p s fault.Io e h = (s, fault.Io, e, refl, h)
  shown first last p s fault.Wire e h = (s, fault.Wire, e, refl, h)

  pub sends_end : (first last : P) (p : Progress) (before after : List AdminCall) (j : PlanState) → IsEnd j → Sends by (record { port = first; calls = before }) (record { port = last; calls = after }) p j → Runs by (record { port = first; calls = before }) (record { port = last; calls = after }) p j
  sends_end first last p before after j end (inl u) = ([], first, u.2 ∙ sym (append-nil before), inl (u.0, u.3), refl, subst (FaultShown by.fails first last (IsPending p [])) (sym u.3) u.1)
  sends_end first last p before after j end (inr (inr u)) =
      ([], first, u.4 ∙ sym (append-nil before), inr (u.1, sending-some p.rest p.listed u.0 u.2, u.5), refl, subst (FaultShown by.fails first last (IsPending p [])) (sym u.5) (shown first last p u.0 u.1 u.2 u.3))
  sends_end first last p before after j end (inr (inl u)) =
      let c : AdminCall = record { node = u.0.node; command = u.0.command; reply = u.1 } in (
        c ∷ [],
        last,
        u.4,
        ((u.0, u.2, refl, refl), subst (λ x. runs_on x (λ q. Goes q [] j) (λ i. (◌≡◌ {A = List AdminCall} [] []) × (j ≡ i))) u.5 (ended j end)),
        (last, u.3, refl),
        subst (FaultShown by.fails last last (IsPending p (c ∷ []))) (sym u.5) (replied last (IsPending p (c ∷ [])) (waits p) u.1),
      )
    where
      ended : (j : PlanState) → IsEnd j → runs_on j (λ q. Goes q [] j) (λ i. (◌≡◌ {A = List AdminCall} [] []) × (j ≡ i))
      ended (Running q) h = absurd h
      ended (Done n) h = (refl, refl)
      ended (Stopped c n) h = (refl, refl)

-- ---- what runs on

pub run_at : (n : ℕ) (o : Option Left) (spent most : ℕ) (q : Progress) → plan_with n o spent most ≡ Running q → (left : Left) × (o ≡ Some left) × (q ≡ record { nodes = n; rest = left.0; listed = left.1; spent = spent; most = most }) × (spent ≢ most)
run_at n None spent most q e = absurd (no_run_stop q causes.StrangeReply spent (sym e))
run_at n (Some ([], listed)) spent most q e = absurd (no_run_done q spent (sym e))
run_at n (Some (o ∷ rest, listed)) spent most q e = by (eqb spent most) refl e
  where
    by : (b : Bool) → eqb spent most ≡ b → cond b (Stopped causes.Limit spent) (Running (record { nodes = n; rest = o ∷ rest; listed = listed; spent = spent; most = most })) ≡ Running q
        → (left : Left) × (Some (let l : Left = (o ∷ rest, listed) in l) ≡ Some left) × (q ≡ record { nodes = n; rest = left.0; listed = left.1; spent = spent; most = most }) × (spent ≢ most)
    by true i u = absurd (no_run_stop q causes.Limit spent (sym u))
    by false i u = ((o ∷ rest, listed), refl, sym (running_is u), eqb-false spent most i)
      where
        running_is : {a b : Progress} → Running a ≡ Running b → a ≡ b
        running_is v = cc

pub running_left : (w : Waits) (reply : AdminReply) (q : Progress) → plan_after w reply ≡ Running q → plan_with w.nodes (after w.rest w.open_still reply) (w.spent + 1) w.most ≡ Running q
running_left w Ok q e = e
running_left w NoKey q e = e
running_left w (Keys ks) q e = e
running_left w (Refused number) q e = absurd (no_run_stop q (causes.Refused (w.spent + 1) number) (w.spent + 1) (sym e))

pub no_left : {l : Left} → None ≡ Some l → ⊥
no_left e = cc

pub left_is : {a b : Left} → Some a ≡ Some b → a ≡ b
left_is e = cc

pub fine_left : (reply : AdminReply) (l left : Left) → when_fine reply l ≡ Some left → l ≡ left
fine_left Ok l left e = left_is e
fine_left NoKey l left e = absurd (no_left e)
fine_left (Keys ks) l left e = absurd (no_left e)
fine_left (Refused n) l left e = absurd (no_left e)

pub run_on : (p q : Progress) (reply : AdminReply) → plan_after (waits p) reply ≡ Running q → (q.nodes ≡ p.nodes) × (q.most ≡ p.most) × (q.spent ≡ p.spent + 1)
run_on p q reply e =
    let r = run_at p.nodes (after p.rest (waits p).open_still reply) (p.spent + 1) p.most q (running_left (waits p) reply q e) in
    (ap (λ x. x.nodes) r.2, ap (λ x. x.most) r.2, ap (λ x. x.spent) r.2)

-- ---- a run so far

-- by these calls the plan came from the first progress to this one, and the port to this state
pub record SoFar {P : Type 0} (moves : P → AdminCall → P → Type 0) (first port : P) (start now : Progress) (before calls : List AdminCall) : Type 0 where
  pub made : List AdminCall
  pub calls_are : calls ≡ before ++ made
  pub goes : (more : List AdminCall) (end : PlanState) → Goes now more end → Goes start (made ++ more) end
  pub pending : (more : List AdminCall) (s : Order) → IsPending now more s → IsPending start (made ++ more) s
  pub chain : Chain moves first made port
  pub spent : now.spent ≡ start.spent + length made

module _ {P : Type 0} (by : PortSteps P) where
  pub far_on : (first port last : P) (start now next : Progress) (before calls after : List AdminCall) (j : PlanState) → j ≡ Running next
      → SoFar by.moves first port start now before calls → Sends by (record { port = port; calls = calls }) (record { port = last; calls = after }) now j → SoFar by.moves first last start next before after
  far_on first port last start now next before calls after j e far sends =
      let s = sends_on by port last now next calls after j e sends in
      record {
        made = far.made ++ s.0 ∷ [];
        calls_are = s.1 ∙ ap (λ x. x ++ s.0 ∷ []) far.calls_are ∙ append_assoc before far.made (s.0 ∷ []);
        goes = λ more end h. subst (λ l. Goes start l end) (sym (append_assoc far.made (s.0 ∷ []) more)) (far.goes (s.0 ∷ more) end (s.3 more end h));
        pending = λ more o h. subst (λ l. IsPending start l o) (sym (append_assoc far.made (s.0 ∷ []) more)) (far.pending (s.0 ∷ more) o (s.4 more o h));
        chain = chain-append by.moves far.made (s.0 ∷ []) first port last far.chain s.5;
        spent = omega (arith, (run_on now next s.0.reply s.2).2, far.spent, length-append far.made (s.0 ∷ []));
      }

  pub far_end : (first port last : P) (start now : Progress) (before calls after : List AdminCall) (j : PlanState) → IsEnd j
      → SoFar by.moves first port start now before calls → Sends by (record { port = port; calls = calls }) (record { port = last; calls = after }) now j → Runs by (record { port = first; calls = before }) (record { port = last; calls = after }) start j
  far_end first port last start now before calls after j end far sends =
      let e = sends_end by port last now calls after j end sends in (
        far.made ++ e.0,
        e.1,
        e.2 ∙ ap (λ x. x ++ e.0) far.calls_are ∙ append_assoc before far.made e.0,
        far.goes e.0 j e.3,
        chain-append by.moves far.made e.0 first port e.1 far.chain e.4,
        weaken by.fails e.1 last (IsPending now e.0) (IsPending start (far.made ++ e.0)) j (far.pending e.0) e.5,
      )
