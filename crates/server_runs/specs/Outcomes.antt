-- What is said of a plan that ran at servers.
use Rattle.std.specs.Prelude.{ℕ, ◌+◌, List, Option, None, Some}
use Rattle.plan_runner.specs.declared.running.Finish.{Finish}
use Rattle.plan_runner.specs.declared.running.Finish.TheVariants.{Done, Stopped}
use Rattle.plan_runner.specs.declared.stop_cause.StopCause.{StopCause}
use Rattle.plan_runner.specs.declared.stop_cause.StopCause.TheVariants as cause
use Rattle.transcripts.specs.OutcomeTexts.{done_text}
use Rattle.transcripts.specs.RunTexts.{paused_text, stop_reason, stopped_by_text}
use Rattle.plan_changes.specs.Loads.{most}
use Rattle.server_commands.specs.Shown.{shown}
use Rattle.server_runs.specs.declared.run_end.RunEnd.{RunEnd}
use Rattle.server_runs.specs.declared.run_end.RunEnd.TheVariants as ends

-- the number, from 1, of the command at which a plan stopped: a command that was lost is not counted
abbrev pub stop_number : (answered : ℕ) → StopCause → ℕ
stop_number n cause.Memory = most (n + 1)
stop_number n cause.Lost = most (n + 1)
stop_number n c = n

-- what a server said, as it may be shown, or the cause
abbrev pub reason : (said : Option (List ℕ)) → StopCause → List ℕ
reason None c = stop_reason c
reason (Some text) c = shown text

abbrev pub stop_text : (said : Option (List ℕ)) → (answered : ℕ) → StopCause → List ℕ
stop_text said n cause.Abandoned = paused_text n
stop_text said n c = stopped_by_text (stop_number n c) (reason said c)

abbrev pub stop_status : StopCause → ℕ
stop_status cause.Abandoned = 3
stop_status c = 1

-- a plan that is given up is paused; so many commands were answered before it
abbrev pub end_text : {S : Type 0} → (said : Option (List ℕ)) → (before : ℕ) → Finish S → List ℕ
end_text said n (Done d) = done_text (most (n + d.spent))
end_text said n (Stopped s) = stop_text said (most (n + s.spent)) s.cause

abbrev pub end_status : {S : Type 0} → Finish S → ℕ
end_status (Done d) = 0
end_status (Stopped s) = stop_status s.cause

-- ---- the same of a run that tells others in one go

abbrev pub run_text : (said : Option (List ℕ)) → (before : ℕ) → RunEnd → List ℕ
run_text said n (ends.Done k) = done_text (most (n + k))
run_text said n (ends.Stopped c k) = stop_text said (most (n + k)) c

abbrev pub run_status : RunEnd → ℕ
run_status (ends.Done k) = 0
run_status (ends.Stopped c k) = stop_status c
