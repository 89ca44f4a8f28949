-- What is printed, shown and logged of a plan that runs at servers. A log names keys by their number alone.
use Rattle.std.specs.Prelude.{ℕ, ◌-◌, ◌*◌, ◌/◌, ◌%◌, zero, suc, List, [], ◌∷◌, ◌++◌, length, codes, decimal}
use Rattle.cluster_admin.specs.declared.admin.AdminCommand.{AdminCommand}
use Rattle.cluster_admin.specs.declared.admin.AdminCommand.TheVariants.{Migrate}
use Rattle.cluster_admin.specs.declared.admin.AdminReply.{AdminReply}
use Rattle.cluster_admin.specs.declared.admin.AdminReply.TheVariants as reply
use Rattle.cluster_admin.specs.declared.port_fault.PortFault.{PortFault}
use Rattle.cluster_admin.specs.declared.port_fault.PortFault.TheVariants as fault
use Rattle.plan_runner.specs.declared.stop_cause.StopCause.{StopCause}
use Rattle.plan_runner.specs.declared.stop_cause.StopCause.TheVariants.{Refused, Memory, StrangeReply, Abandoned, Limit}
use Rattle.plan_runner.specs.declared.stop_cause.StopCause.TheVariants.{Lost}
use Rattle.transcripts.specs.CallTexts.{command_words, node_text, target_words}
use Rattle.transcripts.specs.OutcomeTexts.{closed, fault_text}
use Rattle.transcripts.specs.declared.run_lines.RunProgress.{RunProgress}

-- ---- the log

-- what stands before each line of a log
abbrev pub time_text : List ℕ → List ℕ
time_text time = time ++ 32 ∷ []

abbrev pub key_count : List (List ℕ) → List ℕ
key_count ks = decimal (length ks) ++ codes " keys"

abbrev pub log_words : AdminCommand → List ℕ
log_words (Migrate ks m) = codes "migrate " ++ key_count ks
log_words c = command_words c

abbrev pub log_command_text : (node : ℕ) → AdminCommand → List ℕ
log_command_text n c = closed (log_words c ++ codes " at " ++ node_text n ++ target_words c)

abbrev pub log_reply_text : AdminReply → List ℕ
log_reply_text reply.Ok = closed (codes "OK")
log_reply_text reply.NoKey = closed (codes "NOKEY")
log_reply_text (reply.Keys ks) = closed (key_count ks)
log_reply_text (reply.Refused f) = closed (fault_text f)

abbrev pub log_fault_text : PortFault → List ℕ
log_fault_text fault.Memory = closed (codes "out of memory")
log_fault_text fault.Io = closed (codes "no reply")
log_fault_text fault.Wire = closed (codes "no reply")

-- ---- the outcome

-- by what a server said, or why there is no reply
abbrev pub stopped_by_text : (commands : ℕ) → (reason : List ℕ) → List ℕ
stopped_by_text n reason = closed (codes "stopped at command " ++ decimal n ++ codes ": " ++ reason)

-- where no server said why
abbrev pub stop_reason : StopCause → List ℕ
stop_reason (Refused n f) = fault_text f
stop_reason Memory = codes "out of memory"
stop_reason StrangeReply = codes "a reply that is none to the command"
stop_reason Abandoned = codes "the plan was given up"
stop_reason Limit = codes "more commands than are counted"
stop_reason Lost = codes "no reply came back"

abbrev pub paused_text : (commands : ℕ) → List ℕ
paused_text n = closed (codes "paused after " ++ decimal n ++ codes " commands, no slot is open")

-- ---- before a plan runs

abbrev pub unsurveyed_text : (reason : List ℕ) → List ℕ
unsurveyed_text reason = closed (codes "survey refused: " ++ reason)

abbrev pub open_text : List ℕ
open_text = closed (codes "not clean: slots are open")

abbrev pub load_text : (moves keys commands : ℕ) → List ℕ
load_text moves keys commands = closed (codes "moves " ++ decimal moves ++ codes " slots with " ++ decimal keys
    ++ codes " keys by at most " ++ decimal commands ++ codes " commands")

-- ---- the progress

abbrev pub seconds_text : (millis : ℕ) → List ℕ
seconds_text m = decimal (m / 1000) ++ 46 ∷ decimal (m % 1000 / 100)

-- so many in so many milliseconds, by the second
abbrev pub rate : (count millis : ℕ) → ℕ
rate n zero = 0
rate n (suc m) = n * 1000 / suc m

-- as far as the slots so far tell; nothing before the first one
abbrev pub left_text : (slots all millis : ℕ) → List ℕ
left_text zero all m = []
left_text (suc done) all m = codes ", " ++ decimal ((all - suc done) * m / suc done / 1000) ++ codes " s left"

abbrev pub progress_text : RunProgress → List ℕ
progress_text p =
    decimal p.slots ++ codes " of " ++ decimal p.all_slots ++ codes " slots, " ++ decimal p.keys ++ codes " keys, "
    ++ decimal p.commands ++ codes " commands, " ++ seconds_text p.millis ++ codes " s, "
    ++ decimal (rate p.keys p.millis) ++ codes " keys/s" ++ left_text p.slots p.all_slots p.millis
