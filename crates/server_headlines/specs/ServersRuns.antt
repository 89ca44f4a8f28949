-- What `apply` does at servers: its calls are those of the plan, and the headline holds of them where servers and their
-- clients are as it supposes.
--
-- To use it: `apply_at_servers` ensures `RanOrNot`, and so does `apply`, by the law `applied_plans_have_the_headline`,
-- wherever its port is one to servers. Unless nothing was sent there is a run with the calls that were answered and the
-- end that is printed. For a world that is as the survey showed the servers, and events that are these calls with calls
-- of clients between them, `IsRunAt.headline` gives the seven clauses. Where the plan is done and all of its calls are
-- among the events, `IsRunAt.done` is what the clause `clean_end` asks for.
use Rattle.std.specs.Prelude.{◌≡◌, ◌⊎◌, ◌↔◌, ℕ, Bool, List, [], ◌∷◌, ◌++◌, length, Option, IsTrue}
use Rattle.cluster_admin.specs.declared.admin.AdminReply.{AdminReply}
use Rattle.cluster_world.specs.Honesty.{Honest, past_of}
use Rattle.cluster_world.specs.Openness.{Open}
use Rattle.cluster_admin.specs.Phases.{Phases}
use Rattle.cluster_world.specs.Servers.{ServerRun}
use Rattle.cluster_world.specs.Serving.{served, store_after}
use Rattle.cluster_admin.specs.Surveys.{Survey}
use Rattle.cluster_world.specs.Worlds.{World}
use Rattle.cluster_admin.specs.declared.call.AdminCall.{AdminCall}
use Rattle.cluster_world.specs.declared.event.Event.{Event}
use Rattle.cluster_admin.specs.declared.port_fault.PortFault.{PortFault}
use Rattle.plan_language.specs.PlanView.{PlanView}
use Rattle.plan_runner.specs.Advancing.{IsPending, end_of, last_seat}
use Rattle.plan_runner.specs.Faults.{arm_fault_text}
use Rattle.plan_runner.specs.ProgressView.{Progress}
use Rattle.plan_runner.specs.Verifying.{IsVerified, commands_of}
use Rattle.plan_runner.specs.declared.armed.ArmFault.TheVariants.{TableChanged}
use Rattle.plan_runner.specs.declared.plan_state.PlanState.{PlanState}
use Rattle.plan_runner.specs.declared.plan_state.PlanState.TheVariants.{Done, Stopped}
use Rattle.plan_runner.specs.declared.running.Finish.{Finish}
use Rattle.plan_runner.specs.declared.stop_cause.StopCause.TheVariants as causes
use Rattle.plan_semantics.specs.Driving.{StopsAtRefusal, called}
use Rattle.cluster_world.specs.AdminCalls.{calls}
use Rattle.reshard_theorem.specs.Starts.{Reshard}
use Rattle.plan_semantics.specs.Surveyed.{Shows, node_count}
use Rattle.plan_semantics.specs.Unrolling.{IsPrefix, Unrolls}
use Rattle.plan_semantics.specs.declared.order.Order.{Order}
use Rattle.redis_servers.specs.Ports.{Fails, Moves}
use Rattle.redis_servers.specs.Runs.{Runs}
use Rattle.redis_servers.specs.Told.{TellsSame}
use Rattle.redis_servers.specs.declared.port.ServersPort as port
use Rattle.reshard_theorem.specs.ServerHeadline.{IsServerRunOf, ServerHeadline}
use Rattle.server_links.specs.Streams.{Streams}
use Rattle.server_runs.specs.Applied.{Given, IsApplied}
use Rattle.server_runs.specs.Outcomes.{end_status, end_text}
use Rattle.transcripts.specs.OutcomeTexts.{Prints, refused_text}
use Rattle.transcripts.specs.declared.transcript.Transcript.{Transcript}
use Rattle.server_runs.specs.PlanCalls.{start_of, AreNext, replies_in}

-- ---- the calls of a plan

-- the plan stopped at this command, which is next after these calls, since no reply tells whether it was done
abbrev pub IsLost : Progress → List AdminCall → PlanState → Order → Type 0
IsLost p cs end s = ((n : ℕ) × (end ≡ Stopped causes.Lost n)) × IsPending p cs s

-- What servers saw of the administrator: the calls that were answered, as far as they have come; or all of these, and
-- after them the command that was lost, once, with the reply that was not heard.
abbrev pub AreSeen : (answered : List AdminCall) → (lost : Order → Type 0) → (seen : List AdminCall) → Type 0
AreSeen answered lost seen =
    ((later : List AdminCall) × (answered ≡ seen ++ later))
    ⊎ ((s : Order) × (reply : AdminReply) × lost s × (seen ≡ answered ++ called s.node s.command reply ∷ []))

-- ---- the world of the servers

-- The plan is to run at servers that are as this world: open, in the phases that the survey showed.
pub record IsSurveyed (plan : PlanView) (v : Survey) (reshard : Reshard) : Type 0 where
  pub version : reshard.version ≡ plan.version
  pub commands : reshard.plan ≡ commands_of plan v
  pub nodes : length reshard.first.nodes ≡ node_count v
  pub shows : Shows v reshard.phases
  pub is_open : Open reshard.first reshard.phases reshard.store reshard.before

-- the headline holds, and the servers are open, so the plan can be resumed
pub record HoldsAtServers (reshard : Reshard) (events : List Event) (last : World) : Type 0 where
  pub is_run : IsServerRunOf reshard events last
  pub headline : ServerHeadline reshard events last
  pub is_open : (now : Phases)
      × Open last now (store_after reshard.store (served events)) (past_of reshard.before events)

-- Where the plan was verified for the survey, the headline holds in each world that is as the survey showed the
-- servers, whatever clients ask between the calls that servers saw, if each server answers each event as the
-- definitions let a server answer, and clients are honest.
abbrev pub HasHeadline : PlanView → Survey → (cs : List AdminCall) → (end : PlanState) → Type 0
HasHeadline plan v cs end = (reshard : Reshard) (events : List Event) (last : World) → IsVerified plan v
    → IsSurveyed plan v reshard → ServerRun reshard.first events last → Honest reshard.first reshard.before events
    → AreSeen cs (IsLost (start_of plan v) cs end) (calls events) → HoldsAtServers reshard events last

-- ---- what `apply` did

module _ {I O : Type 0} (by : Streams I O) where
  -- The port was called so, each call after the reply to the one before, and the plan came to this end. The calls are a
  -- beginning of what the plan stands for, whatever servers answered; all of it, if it is done.
  pub record IsRunAt {P : Type 0} (plan : PlanView) (v : Survey) (first : port.ServersPort I O P) (cs : List AdminCall)
      (end : PlanState) : Type 0 where
    pub at : port.ServersPort I O P
    pub ran : Runs by first cs at
    pub next : AreNext (start_of plan v) cs
    pub prefix : IsPrefix (commands_of plan v) cs
    pub stops : StopsAtRefusal cs
    pub done : (n : ℕ) → end ≡ Done n → Unrolls (commands_of plan v) cs
    pub lost : (n : ℕ) → end ≡ Stopped causes.Lost n → (s : Order) × IsPending (start_of plan v) cs s
    pub counted : replies_in end ≡ length cs
    pub headline : HasHeadline plan v cs end

  -- The port's survey is another one, and nothing was sent; or it tells what the plan's survey tells, and the calls
  -- that the seat was given are such a run, whose end is printed.
  abbrev pub RanOrNot : {P W : Type 0} → (said : port.ServersPort I O P → Option (List ℕ)) → Given (List AdminCall)
      → port.ServersPort I O P × W → port.ServersPort I O P × W → Transcript → Transcript → Type 0
  RanOrNot said g first last told told' =
      ((last ≡ first) × Prints told told' (refused_text (arm_fault_text TableChanged)) 1)
      ⊎ ((finish : Finish (List AdminCall)) × (cs : List AdminCall) × (last_seat finish ≡ g.seat ++ cs)
      × TellsSame first.0.setup.survey g.survey
      × Prints told told' (end_text (said last.0) g.before finish) (end_status finish)
      × IsRunAt g.plan g.survey first.0 cs (end_of finish))

  abbrev pub AppliedIsRun : {W : Type 0} → (sees : W → Order → Bool → W → Type 0)
      → (hears : W → AdminReply → W → Type 0) → (misses : W → PortFault → W → Type 0) → (P : Type 0) → Type 0
  AppliedIsRun {W} sees hears misses P = (said : port.ServersPort I O P → Option (List ℕ))
      (g : Given (List AdminCall)) (first last : port.ServersPort I O P × W) (told told' : Transcript)
      → IsApplied (record {
        moves = Moves by;
        fails = Fails by;
        matches = λ (p : port.ServersPort I O P) calls w same. IsTrue same ↔ TellsSame p.setup.survey w;
        said = said;
        calls = λ (s : List AdminCall). s;
        sees = sees;
        hears = hears;
        misses = misses;
      }) g first last told told'
      → RanOrNot said g first last told told'
