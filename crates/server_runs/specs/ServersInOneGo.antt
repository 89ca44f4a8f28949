-- What `apply_in_one_go` does at servers: its calls are those of the plan. Unless nothing was sent there is a run
-- with the calls that were answered and the end that is printed (`RanInOneGoOrNot`).
use Rattle.std.specs.Prelude.{◌≡◌, ◌⊎◌, ℕ, ◌+◌, Bool, true, false, List, [], ◌++◌, length, map, Option, Some}
use Rattle.cluster_admin.specs.Surveys.{Survey}
use Rattle.cluster_admin.specs.declared.call.AdminCall.{AdminCall}
use Rattle.plan_language.specs.PlanView.{PlanView}
use Rattle.plan_runner.specs.Faults.{arm_fault_text}
use Rattle.plan_runner.specs.Verifying.{commands_of}
use Rattle.plan_runner.specs.declared.armed.ArmFault.TheVariants.{TableChanged}
use Rattle.plan_runner.specs.declared.stop_cause.StopCause.TheVariants as causes
use Rattle.plan_semantics.specs.Driving.{StopsAtRefusal}
use Rattle.plan_semantics.specs.Unrolling.{IsPrefix, Unrolls}
use Rattle.redis_servers.specs.Calls.{Given}
use Rattle.redis_servers.specs.InOneGo.{TellsInOneGo}
use Rattle.redis_servers.specs.Runs.{Runs}
use Rattle.redis_servers.specs.Told.{TellsSame}
use Rattle.redis_servers.specs.declared.port.ServersPort as port
use Rattle.server_links.specs.Streams.{Streams}
use Rattle.server_runs.specs.Applied.{Given as Supplied}
use Rattle.server_runs.specs.InOneGo.{AreGroups, AreToldOnce, RunsInOneGo, Watching, calls_in, end_after, first_undone}
use Rattle.server_runs.specs.InOneGo.{state_of, told_call}
use Rattle.server_runs.specs.Outcomes.{run_status, run_text}
use Rattle.server_runs.specs.PlanCalls.{AreNext, replies_in, start_of}
use Rattle.server_runs.specs.declared.run_end.RunEnd.{RunEnd}
use Rattle.server_runs.specs.declared.run_end.RunEnd.TheVariants.{Done}
use Rattle.server_runs.specs.declared.slot_owner.SlotOwner.{SlotOwner}
use Rattle.plan_semantics.specs.Tellings.{LastTells}
use Rattle.transcripts.specs.OutcomeTexts.{Prints, refused_text}
use Rattle.transcripts.specs.declared.transcript.Transcript.{Transcript}

-- ---- others that are told

-- after these calls, of which the last told another node of the owner, the plan tells these nodes next
pub record AreToldNext (plan : PlanView) (v : Survey) (cs : List AdminCall) (x : SlotOwner) (nodes : List ℕ)
    : Type 0 where
  pub others : AreToldOnce x nodes
  pub last : LastTells x.slot x.owner cs
  pub next : AreNext (start_of plan v) (cs ++ map (told_call x) nodes)

-- ---- what `apply_in_one_go` did

module _ {I O : Type 0} (by : Streams I O) where
  -- Others were told in one go after these calls, and not all have answered OK: the first that has not ends the run,
  -- and is counted after all that have.
  pub record StopsInOneGo {P : Type 0} (plan : PlanView) (v : Survey) (at : port.ServersPort I O P)
      (cs : List AdminCall) (end : RunEnd) : Type 0 where
    pub owned : SlotOwner
    pub nodes : List ℕ
    pub next : AreToldNext plan v cs owned nodes
    pub answers : List Given
    pub last : port.ServersPort I O P
    pub tells : TellsInOneGo by owned.slot owned.owner nodes at answers last
    pub is : Some end ≡ end_after (length cs) (first_undone answers) answers

  -- The port was called so, each group of calls after the replies to the one before, and the plan came to this end. The
  -- calls are a beginning of what the plan stands for, whatever servers answered; all of it, if it is done.
  pub record IsRunInOneGo {P : Type 0} (plan : PlanView) (v : Survey) (first : port.ServersPort I O P)
      (end : RunEnd) : Type 0 where
    pub groups : List (List AdminCall)
    pub grouped : AreGroups [] groups
    pub at : port.ServersPort I O P
    pub ran : Runs by first (calls_in groups) at
    pub next : AreNext (start_of plan v) (calls_in groups)
    pub prefix : IsPrefix (commands_of plan v) (calls_in groups)
    pub stops : StopsAtRefusal (calls_in groups)
    pub done : (n : ℕ) → end ≡ Done n → Unrolls (commands_of plan v) (calls_in groups)
    pub counted : (replies_in (state_of end) ≡ length (calls_in groups))
        ⊎ StopsInOneGo plan v at (calls_in groups) end

  -- The port's survey is another one, and nothing was sent; or it tells what the plan's survey tells, and there was
  -- such a run, whose end is printed.
  abbrev pub RanInOneGoOrNot : {P W S : Type 0} → Watching W → (said : port.ServersPort I O P → Option (List ℕ))
      → Supplied S → port.ServersPort I O P × W → port.ServersPort I O P × W → Transcript → Transcript → Type 0
  RanInOneGoOrNot watching said g first last told told' =
      ((last ≡ first) × Prints told told' (refused_text (arm_fault_text TableChanged)) 1)
      ⊎ ((end : RunEnd) × TellsSame first.0.setup.survey g.survey
      × RunsInOneGo by watching first last (start_of g.plan g.survey) end
      × Prints told told' (run_text (said last.0) g.before end) (run_status end)
      × IsRunInOneGo g.plan g.survey first.0 end)
