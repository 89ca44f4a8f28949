-- A plan that was carried out at servers, or tried to be.
use Rattle.std.specs.Prelude.{◌≡◌, ◌⊎◌, ℕ, Bool, false, true, List, Option}
use Rattle.cluster_admin.specs.declared.admin.AdminCommand.{AdminCommand}
use Rattle.cluster_admin.specs.declared.admin.AdminReply.{AdminReply}
use Rattle.cluster_admin.specs.Surveys.{Survey}
use Rattle.cluster_admin.specs.declared.call.AdminCall.{AdminCall}
use Rattle.cluster_admin.specs.declared.port_fault.PortFault.{PortFault}
use Rattle.plan_language.specs.PlanView.{PlanView}
use Rattle.plan_semantics.specs.Surveyed.{node_count}
use Rattle.plan_semantics.specs.declared.order.Order.{Order}
use Rattle.plan_runner.specs.Advancing.{end_of, last_seat}
use Rattle.plan_runner.specs.Faults.{arm_fault_text}
use Rattle.plan_runner.specs.ProgressView.{at_start}
use Rattle.plan_runner.specs.Verifying.{commands_of}
use Rattle.plan_runner.specs.Watching.{RunsWatched}
use Rattle.plan_runner.specs.declared.armed.ArmFault.TheVariants.{TableChanged}
use Rattle.plan_runner.specs.declared.running.Finish.{Finish}
use Rattle.server_runs.specs.Outcomes.{end_status, end_text}
use Rattle.transcripts.specs.OutcomeTexts.{Prints, refused_text}
use Rattle.transcripts.specs.declared.transcript.Transcript.{Transcript}

-- how a port, its seat and a watcher are seen
pub record Seen (P W S : Type 0) : Type 1 where
  pub moves : P → AdminCall → P → Type 0
  pub fails : P → ℕ → AdminCommand → PortFault → P → Type 0
  pub matches : P → List AdminCall → Survey → Bool → Type 0
  pub said : P → Option (List ℕ)
  pub calls : S → List AdminCall
  pub sees : W → Order → Bool → W → Type 0
  pub hears : W → AdminReply → W → Type 0
  pub misses : W → PortFault → W → Type 0

-- a plan that is verified for a survey, the seat that it gets, and the commands that were answered before its run
pub record Given (S : Type 0) : Type 0 where
  pub plan : PlanView
  pub survey : Survey
  pub seat : S
  pub before : ℕ

-- The port is not as it was surveyed, and nothing was done; or the plan ran from its start, and its end is told.
abbrev pub IsApplied : {P W S : Type 0} → Seen P W S → Given S → P × W → P × W → Transcript → Transcript → Type 0
IsApplied {P} {W} {S} by g first last told told' =
    (by.matches first.0 (by.calls g.seat) g.survey false × (last ≡ first)
    × Prints told told' (refused_text (arm_fault_text TableChanged)) 1)
    ⊎ (by.matches first.0 (by.calls g.seat) g.survey true × ((finish : Finish S)
    × RunsWatched (record { moves = by.moves; fails = by.fails; sees = by.sees; hears = by.hears; misses = by.misses })
    (record { port = first; calls = by.calls g.seat }) (record { port = last; calls = by.calls (last_seat finish) })
    (at_start (node_count g.survey) (commands_of g.plan g.survey) 18446744073709551615) (end_of finish)
    × Prints told told' (end_text (by.said last.0) g.before finish) (end_status finish)))
