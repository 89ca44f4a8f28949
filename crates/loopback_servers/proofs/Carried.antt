-- A plan that is done has taken a reply for each of its calls, and these unroll it.
use Rattle.std.proofs.Common.{◌≡◌, ◌∙◌, ◌∷◌, ◌++◌, refl, ℕ, suc, ◌+◌, true, false, cond, eqb, List, [], Option, Some, None, ap, sym, inl, inr, add-zero, zero-add, arith}
use Rattle.std.specs.Prelude.{length}
use Rattle.cluster_admin.specs.declared.admin.AdminReply.{AdminReply}
use Rattle.cluster_admin.specs.declared.admin.AdminReply.TheVariants.{Ok, NoKey, Keys, Refused}
use Rattle.cluster_admin.specs.declared.call.AdminCall.{AdminCall}
use Rattle.loopback_servers.specs.Carrying.{EndsBy, plan_at_start}
use Rattle.loopback_servers.specs.declared.plan_beside.PlanEnd.TheVariants as ended
use Rattle.plan_runner.proofs.Spelling.{done_spelt}
use Rattle.plan_runner.specs.Advancing.{Goes, plan_of, runs_on, stopped_by, waits}
use Rattle.plan_runner.specs.PlanStates.{Left, after, plan_after, plan_with}
use Rattle.plan_runner.specs.ProgressView.{Progress, Waits}
use Rattle.plan_runner.specs.Verifying.{Verified}
use Rattle.plan_runner.specs.declared.running.Taken.{Taken}
use Rattle.plan_runner.specs.declared.running.Taken.TheVariants.{Running, Done, Stopped}
use Rattle.plan_runner.specs.declared.stop_cause.StopCause.{StopCause}
use Rattle.plan_runner.specs.declared.stop_cause.StopCause.TheVariants as causes
use Rattle.plan_semantics.proofs.Unrolling.{whole_by_spelled}

-- a plan that runs, that is done and that stopped, as a reply leaves it
abbrev running : Progress → Taken (Unit {0})
running p = Running (record { progress = p; seat = tt })

abbrev pub done : ℕ → Taken (Unit {0})
done n = Done (record { seat = tt; spent = n })

abbrev stopped : StopCause → ℕ → Taken (Unit {0})
stopped cause n = Stopped (record { seat = tt; cause = cause; spent = n })

done_is : (a b : ℕ) → plan_of (done a) ≡ plan_of (done b) → a ≡ b
done_is a b e = cc

not_stopped : (a b : ℕ) (c : StopCause) → plan_of (done a) ≡ plan_of (stopped c b) → ⊥
not_stopped a b c e = cc

one_more : (spent calls : ℕ) → spent + 1 + calls ≡ spent + suc calls
one_more spent calls = omega arith

none_after : (spent n : ℕ) (cs : List AdminCall) → cs ≡ [] → n ≡ spent → n ≡ spent + length cs
none_after spent n cs none is = is ∙ sym (add-zero spent) ∙ ap (λ (l : List AdminCall). spent + length l) (sym none)

-- the calls after a reply, where those of a plan that runs on are counted
module _ (cs : List AdminCall) (n : ℕ) (on : (q : Progress) → Goes q cs (plan_of (done n)) → n ≡ q.spent + length cs) where
  left_counted : (nodes spent most : ℕ) (o : Option Left)
      → runs_on (plan_with nodes o spent most) (λ q. Goes q cs (plan_of (done n))) (λ j. (cs ≡ []) × (plan_of (done n) ≡ j))
      → n ≡ spent + length cs
  left_counted nodes spent most None h = absurd (not_stopped n spent causes.StrangeReply h.1)
  left_counted nodes spent most (Some ([], listed)) h = none_after spent n cs h.0 (done_is n spent h.1)
  left_counted nodes spent most (Some (o ∷ rest, listed)) h =
      let p : Progress = record { nodes = nodes; rest = o ∷ rest; listed = listed; spent = spent; most = most } in
      elim (eqb spent most) as (λ b. runs_on (cond b (plan_of (stopped causes.Limit spent)) (plan_of (running p)))
      (λ q. Goes q cs (plan_of (done n))) (λ j. (cs ≡ []) × (plan_of (done n) ≡ j)) → n ≡ spent + length cs) [
        | true ↦ (λ h. absurd (not_stopped n spent causes.Limit h.1))
        | false ↦ (λ h. on p h)
      ] h

  reply_counted : (w : Waits) (reply : AdminReply)
      → runs_on (plan_after w reply) (λ q. Goes q cs (plan_of (done n))) (λ j. (cs ≡ []) × (plan_of (done n) ≡ j))
      → n ≡ w.spent + 1 + length cs
  reply_counted w (Refused fault) h = absurd (not_stopped n (w.spent + 1) (causes.Refused (w.spent + 1) fault) h.1)
  reply_counted w Ok h = left_counted w.nodes (w.spent + 1) w.most (after w.rest w.open_still Ok) h
  reply_counted w NoKey h = left_counted w.nodes (w.spent + 1) w.most (after w.rest w.open_still NoKey) h
  reply_counted w (Keys ks) h = left_counted w.nodes (w.spent + 1) w.most (after w.rest w.open_still (Keys ks)) h

-- each reply is counted
counted : (cs : List AdminCall) (p : Progress) (n : ℕ) → Goes p cs (plan_of (done n)) → n ≡ p.spent + length cs
counted [] p n (inl (rest, end)) = none_after p.spent n [] refl (done_is n p.spent end)
counted [] p n (inr (fault, rest, end)) = absurd (not_stopped n p.spent (stopped_by fault) end)
counted (c ∷ cs) p n (next, on) =
    reply_counted cs n (λ q. counted cs q n) (waits p) c.reply on ∙ one_more p.spent (length cs)

-- by its calls a plan that is done was carried out
pub ends_done : (v : Verified) (first last cs : List AdminCall) (n : ℕ) → last ≡ first ++ cs → Goes (plan_at_start v) cs (plan_of (done n))
    → EndsBy v first last (ended.Done n)
ends_done v first last cs n are goes =
    (cs, are, whole_by_spelled _ cs (done_spelt (plan_at_start v) cs n tt goes), counted cs (plan_at_start v) n goes ∙ zero-add (length cs))
