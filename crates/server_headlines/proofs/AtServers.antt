-- A plan that was applied at servers: its calls are its own, whatever servers answered.
use Rattle.std.proofs.Common.{◌≡◌, ℕ, ◌+◌, Bool, List, [], ◌∷◌, ◌++◌, length, sym, refl, ap, ◌∙◌, subst, inl, inr}
use Rattle.std.proofs.Common.{zero-add}
use Rattle.byte_texts.specs.Outcomes.{Chain}
use Rattle.cluster_admin.specs.declared.admin.AdminReply.{AdminReply}
use Rattle.cluster_admin.specs.Surveys.{Survey}
use Rattle.cluster_admin.specs.declared.call.AdminCall.{AdminCall}
use Rattle.cluster_admin.specs.declared.port_fault.PortFault.{PortFault}
use Rattle.plan_language.specs.PlanView.{PlanView}
use Rattle.plan_runner.specs.Advancing.{FaultShown, Goes, IsPending, end_of, last_seat}
use Rattle.plan_runner.specs.Verifying.{commands_of}
use Rattle.plan_runner.specs.Watching.{RunsWatched, WatchedSteps, both}
use Rattle.plan_runner.specs.declared.plan_state.PlanState.{PlanState}
use Rattle.plan_runner.specs.declared.plan_state.PlanState.TheVariants.{Done, Stopped}
use Rattle.plan_runner.specs.declared.stop_cause.StopCause.{StopCause}
use Rattle.plan_runner.specs.declared.stop_cause.StopCause.TheVariants as causes
use Rattle.plan_runner.proofs.Spelling.{done_spelt}
use Rattle.plan_semantics.specs.Unrolling.{Unrolls}
use Rattle.plan_semantics.specs.declared.order.Order.{Order}
use Rattle.plan_semantics.proofs.Unrolling.{whole_by_spelled}
use Rattle.redis_servers.specs.Ports.{Fails, Moves}
use Rattle.redis_servers.specs.Runs.{Runs}
use Rattle.redis_servers.specs.declared.port.ServersPort as port
use Rattle.server_links.specs.Streams.{Streams}
use Rattle.server_headlines.proofs.Headlines.{has_headline}
use Rattle.server_runs.proofs.Beginnings.{next_beginning}
use Rattle.server_runs.proofs.Listing.{ran_keys}
use Rattle.server_runs.proofs.OwnCalls.{goes_counted, goes_next, pending_next}
use Rattle.server_headlines.specs.ServersRuns.{AppliedIsRun, IsRunAt}
use Rattle.server_runs.specs.PlanCalls.{AreNext, replies_in, start_of}

not_done : (c : StopCause) (m n : ℕ) → Stopped c m ≡ Done n → ⊥
not_done c m n e = cc

not_lost : (m n : ℕ) → Stopped causes.Abandoned m ≡ Stopped causes.Lost n → ⊥
not_lost m n e = cc

module _ {I O P : Type 0} (streams : Streams I O) where
  run_at : (plan : PlanView) (v : Survey) (first at : port.ServersPort I O P) (cs : List AdminCall) (end : PlanState)
      → Runs streams first cs at → AreNext (start_of plan v) cs
      → ((n : ℕ) → end ≡ Done n → Unrolls (commands_of plan v) cs)
      → ((n : ℕ) → end ≡ Stopped causes.Lost n → (s : Order) × IsPending (start_of plan v) cs s)
      → replies_in end ≡ 0 + length cs → IsRunAt streams plan v first cs end
  run_at plan v first at cs end ran next done lost counted =
      let beginning = next_beginning plan v cs next (ran_keys streams first at cs ran) in
      record {
        at = at;
        ran = ran;
        next = next;
        prefix = beginning.0;
        stops = beginning.1;
        done = done;
        lost = lost;
        counted = counted ∙ zero-add (length cs);
        headline = has_headline plan v cs end next beginning;
      }

  module _ {W : Type 0} (sees : W → Order → Bool → W → Type 0) (hears : W → AdminReply → W → Type 0)
      (misses : W → PortFault → W → Type 0) where
    abbrev by : WatchedSteps (port.ServersPort I O P) W
    by = record { moves = Moves streams; fails = Fails streams; sees = sees; hears = hears; misses = misses }

    ran : (cs : List AdminCall) (first at : port.ServersPort I O P × W)
        → Chain (both by).moves first cs at → Runs streams first.0 cs at.0
    ran [] first at chain = ap (λ x. x.0) chain
    ran (c ∷ cs) first at chain = (chain.0.0, chain.1.0, ran cs chain.0 at chain.2)

    lost : (plan : PlanView) (v : Survey) (cs : List AdminCall) (at last : port.ServersPort I O P × W) (end : PlanState)
        → FaultShown (both by).fails at last (IsPending (start_of plan v) cs) end
        → (n : ℕ) → end ≡ Stopped causes.Lost n → (s : Order) × IsPending (start_of plan v) cs s
    lost plan v cs at last end shown n is =
        let met =
        subst (FaultShown (both by).fails at last (IsPending (start_of plan v) cs)) is shown in
        (met.0, met.2)

    abbrev RanSo : PlanView → Survey → List AdminCall → List AdminCall → port.ServersPort I O P → PlanState → Type 0
    RanSo plan v seat after first end = (cs : List AdminCall) × (after ≡ seat ++ cs)
        × IsRunAt streams plan v first cs end

    watched : (plan : PlanView) (v : Survey) (first last : port.ServersPort I O P × W) (seat after : List AdminCall)
        (end : PlanState)
        → RunsWatched by (record { port = first; calls = seat }) (record { port = last; calls = after }) (start_of plan v) end
        → RanSo plan v seat after first.0 end
    watched plan v first last seat after end (inl r) = (
      r.0,
      r.2,
      run_at plan v first.0 r.1.0 r.0 end (ran r.0 first r.1 r.4) (goes_next (start_of plan v) r.0 end r.3)
          (λ n is. whole_by_spelled (commands_of plan v) r.0
          (done_spelt (start_of plan v) r.0 n tt (subst (Goes (start_of plan v) r.0) is r.3)))
          (lost plan v r.0 r.1 last end r.5)
          (goes_counted (start_of plan v) r.0 end r.3),
    )
    watched plan v first last seat after end (inr r) = (
      r.0,
      r.3,
      run_at plan v first.0 r.1.0 r.0 end (ran r.0 first r.1 r.5) (pending_next (start_of plan v) r.0 r.2 r.4)
          (λ n is. absurd (not_done causes.Abandoned (0 + length r.0) n (sym r.7 ∙ is)))
          (λ n is. absurd (not_lost (0 + length r.0) n (sym r.7 ∙ is)))
          (ap replies_in r.7),
    )

pub applied_is_run : {I O W : Type 0} (streams : Streams I O) (sees : W → Order → Bool → W → Type 0)
    (hears : W → AdminReply → W → Type 0) (misses : W → PortFault → W → Type 0)
    (P : Type 0) → AppliedIsRun streams sees hears misses P
applied_is_run streams sees hears misses P said g first last told told' (inl none) =
    inl (none.1, none.2)
applied_is_run streams sees hears misses P said g first last told told'
    (inr (same, (finish, runs, prints))) =
    let ran = watched streams sees hears misses g.plan g.survey first last g.seat (last_seat finish) (end_of finish) runs in
    inr (finish, ran.0, ran.1, same.0 refl, prints, ran.2)
