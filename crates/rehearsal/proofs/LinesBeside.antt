-- What a line that was read beside an armed plan makes of the stage.
use Rattle.std.proofs.Common.{◌≡◌, List, Result, Ok, Err, refl}
use Rattle.std.specs.Prelude.{MatchResult}
use Rattle.cluster_admin.specs.declared.call.AdminCall.{AdminCall}
use Rattle.plan_runner.specs.declared.running.RunningPlan.{RunningPlan}
use Rattle.script_lines.specs.declared.fault.Halt.{Halt}
use Rattle.script_lines.specs.declared.fault.Halt.TheVariants.{Memory}
use Rattle.script_lines.specs.declared.fault.ScriptFault.{ScriptFault}
use Rattle.script_lines.specs.declared.line.Line.{Line}
use Rattle.script_lines.specs.declared.line.Line.TheVariants.{Call, Admin, Step, Run, Honest, Abandon, Resume}
use Rattle.transcripts.specs.declared.transcript.Transcript.{Transcript}
use Rattle.rehearsal.specs.declared.plan_armed.Beside.TheVariants.{Played, Step as ToStep, Run as ToRun, Abandon as ToAbandon}
use Rattle.rehearsal.specs.declared.stage.Stage.{Stage}
use Rattle.rehearsal.specs.declared.stage.Stage.TheVariants.{PlanArmed}
use Rattle.rehearsal.specs.PlanArmed.{DoesArmed, DoesBeside, IsAbandoned, Ran, Stepped}
use Rattle.cluster_world.specs.Recorded.{Recorded}
use Rattle.rehearsal.specs.Stages.{Halts, IsSeatFree}

-- r and next are the world before and after what was done beside the plan, and old and mid the transcript
module _ (r next : Recorded) (p : RunningPlan (List AdminCall)) (old mid : Transcript) where
  pub was_played : (form : Result Line ScriptFault) → DoesBeside form r old mid next Played
      → DoesArmed form r p old mid (PlanArmed next p)
  was_played (Ok (Call n asking q)) (is, does) = (refl, does)
  was_played (Ok (Admin n c)) does = absurd does
  was_played (Ok Step) (is, same, told) = absurd cc
  was_played (Ok Run) (is, same, told) = absurd cc
  was_played (Ok Abandon) (is, same, told) = absurd cc
  was_played (Ok (Resume b)) does = absurd does
  was_played (Ok Honest) (is, same, does) = (same, refl, does)
  was_played (Err f) does = absurd does

  pub took_step : (form : Result Line ScriptFault) (result : Result Stage Halt) (new : Transcript)
      → DoesBeside form r old mid next ToStep → MatchResult result (Stepped next p mid new) (λ h. h ≡ Memory)
      → MatchResult result (DoesArmed form r p old new) (Halts form old new)
  took_step (Ok (Call n asking q)) result new (is, does) stepped = absurd cc
  took_step (Ok (Admin n c)) result new does stepped = absurd does
  took_step (Ok Step) (Ok stage) new (is, same, told) stepped = rw (same, told) at stepped
  took_step (Ok Step) (Err h) new (is, same, told) stepped = rw stepped tt
  took_step (Ok Run) result new (is, same, told) stepped = absurd cc
  took_step (Ok Abandon) result new (is, same, told) stepped = absurd cc
  took_step (Ok (Resume b)) result new does stepped = absurd does
  took_step (Ok Honest) result new (is, same, does) stepped = absurd cc
  took_step (Err f) result new does stepped = absurd does

  pub was_run : (form : Result Line ScriptFault) (result : Result Stage Halt) (new : Transcript)
      → DoesBeside form r old mid next ToRun
      → MatchResult result (IsSeatFree (Ran next p mid new)) (λ h. h ≡ Memory)
      → MatchResult result (DoesArmed form r p old new) (Halts form old new)
  was_run (Ok (Call n asking q)) result new (is, does) ran = absurd cc
  was_run (Ok (Admin n c)) result new does ran = absurd does
  was_run (Ok Step) result new (is, same, told) ran = absurd cc
  was_run (Ok Run) (Ok stage) new (is, same, told) ran = rw (same, told) at ran
  was_run (Ok Run) (Err h) new (is, same, told) ran = rw ran tt
  was_run (Ok Abandon) result new (is, same, told) ran = absurd cc
  was_run (Ok (Resume b)) result new does ran = absurd does
  was_run (Ok Honest) result new (is, same, does) ran = absurd cc
  was_run (Err f) result new does ran = absurd does

  pub was_abandoned : (form : Result Line ScriptFault) (result : Result Stage Halt) (new : Transcript)
      → DoesBeside form r old mid next ToAbandon
      → MatchResult result (IsSeatFree (IsAbandoned next p mid new)) (λ h. h ≡ Memory)
      → MatchResult result (DoesArmed form r p old new) (Halts form old new)
  was_abandoned (Ok (Call n asking q)) result new (is, does) abandoned = absurd cc
  was_abandoned (Ok (Admin n c)) result new does abandoned = absurd does
  was_abandoned (Ok Step) result new (is, same, told) abandoned = absurd cc
  was_abandoned (Ok Run) result new (is, same, told) abandoned = absurd cc
  was_abandoned (Ok Abandon) (Ok stage) new (is, same, told) abandoned = rw (same, told) at abandoned
  was_abandoned (Ok Abandon) (Err h) new (is, same, told) abandoned = rw abandoned tt
  was_abandoned (Ok (Resume b)) result new does abandoned = absurd does
  was_abandoned (Ok Honest) result new (is, same, does) abandoned = absurd cc
  was_abandoned (Err f) result new does abandoned = absurd does
