-- A plan that is watched continues, or ends, or is given up.
use Rattle.std.proofs.Common.{◌≡◌, ◌+◌, List, [], refl, ap, ◌∙◌, subst, inl, inr, append-nil}
use Rattle.cluster_admin.specs.declared.admin.AdminReply.{AdminReply}
use Rattle.cluster_admin.specs.declared.call.AdminCall.{AdminCall}
use Rattle.plan_runner.specs.ProgressView.{Progress}
use Rattle.plan_runner.specs.Advancing.{IsPending}
use Rattle.plan_runner.specs.Watching.{RunsWatched, SendsWatched, WatchedSteps, both}
use Rattle.plan_runner.specs.declared.plan_state.PlanState.{PlanState}
use Rattle.plan_runner.specs.declared.plan_state.PlanState.TheVariants.{Running, Stopped}
use Rattle.plan_runner.specs.declared.stop_cause.StopCause.TheVariants as causes
use Rattle.plan_runner.proofs.Going.{IsEnd, SoFar, far_end, far_on, no_run_stop, run_on, sends_on}

module _ {P W : Type 0} (by : WatchedSteps P W) where
  -- a run so far
  abbrev pub Far : (first now : P × W) → (start p : Progress) → (before calls : List AdminCall) → Type 0
  Far first now start p before calls = SoFar (both by).moves first now start p before calls

  -- a plan that runs on was sent its next command
  pub watched_sends : (first last : P × W) (p q : Progress) (before after : List AdminCall) → SendsWatched by (record { port = first; calls = before }) (record { port = last; calls = after }) p (Running q)
      → (reply : AdminReply) × (q.nodes ≡ p.nodes) × (q.most ≡ p.most) × (q.spent ≡ p.spent + 1)
  watched_sends first last p q before after (inl sends) =
      let s = sends_on (both by) first last p q before after (Running q) refl sends in
      let r = run_on p q s.0.reply s.2 in
      (s.0.reply, r.0, r.1, r.2)
  watched_sends first last p q before after (inr u) = absurd (no_run_stop q causes.Abandoned p.spent u.4)

  pub watched_on : (first port last : P × W) (start now next : Progress) (before calls after : List AdminCall)
      → Far first port start now before calls → SendsWatched by (record { port = port; calls = calls }) (record { port = last; calls = after }) now (Running next) → Far first last start next before after
  watched_on first port last start now next before calls after far (inl sends) =
      far_on (both by) first port last start now next before calls after (Running next) refl far sends
  watched_on first port last start now next before calls after far (inr u) = absurd (no_run_stop next causes.Abandoned now.spent u.4)

  pub watched_end : (first port last : P × W) (start now : Progress) (before calls after : List AdminCall) (j : PlanState) → IsEnd j
      → Far first port start now before calls → SendsWatched by (record { port = port; calls = calls }) (record { port = last; calls = after }) now j → RunsWatched by (record { port = first; calls = before }) (record { port = last; calls = after }) start j
  watched_end first port last start now before calls after j end far (inl sends) =
      inl (far_end (both by) first port last start now before calls after j end far sends)
  watched_end first port last start now before calls after j end far (inr u) = inr (
    far.made,
    port,
    u.0,
    u.2 ∙ far.calls_are,
    subst (λ l. IsPending start l u.0) (append-nil far.made) (far.pending [] u.0 u.1),
    far.chain,
    u.3,
    u.4 ∙ ap (λ n. Stopped causes.Abandoned n) far.spent,
  )
