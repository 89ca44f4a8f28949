-- What is recorded of a plan by who watches it.
use Rattle.std.specs.Prelude.{◌≡◌, ◌⊎◌, ℕ, Bool, true, false, List, IfSome, codes}
use Rattle.cluster_admin.specs.declared.admin.AdminReply.{AdminReply}
use Rattle.cluster_admin.specs.declared.port_fault.PortFault.{PortFault}
use Rattle.cluster_admin.specs.declared.port_fault.PortFault.TheVariants.{Wire}
use Rattle.plan_semantics.specs.declared.order.Order.{Order}
use Rattle.transcripts.specs.RunTexts.{log_command_text, log_fault_text, log_reply_text}
use Rattle.server_runs.specs.Counts.{AreClosed, counted, kind_of}
use Rattle.server_runs.specs.RunLogs.{HasBrokenLog, Logs}
use Rattle.server_runs.specs.Surrounded.{Paces}
use Rattle.server_runs.specs.declared.kind.Kind.TheVariants.{Opens}
use Rattle.server_runs.specs.declared.run_record.RunRecord.{RunRecord}
use Rattle.server_runs.specs.declared.watch.Watch as watch

-- the pace and the number of moves are those of the run
abbrev pub IsOfRun : {S L : Type 0} → watch.Watch S L → watch.Watch S L → Type 0
IsOfRun w w' = (w'.pace ≡ w.pace) × (w'.moves ≡ w.moves)

-- the command opens a slot, and no slot is open
abbrev pub MayPauseBefore : {L : Type 0} → RunRecord L → Order → Type 0
MayPauseBefore r o = (kind_of o ≡ Opens) × AreClosed r.nodes r.counts

-- what the run_context of a watch do, and what its log takes
pub record Around (S L : Type 0) : Type 1 where
  pub asks : S → Bool → S → Type 0
  pub tells : S → ℕ → S → Type 0
  pub waits : S → ℕ → S → Type 0
  pub took : L → List ℕ → L → Type 0

-- why a plan is given up before the command: the operator asks for that, or the command's line, or one before it, could
-- not be written to the log
abbrev pub HasReason : {S L : Type 0} → Around S L → watch.Watch S L → Order → watch.Watch S L → Type 0
HasReason by w o w' = (by.asks w.run_context true w'.run_context × (w'.run.log ≡ w.run.log))
    ⊎ (Logs by.took (log_command_text o.node o.command) w.run.log w'.run.log × HasBrokenLog w'.run.log)

-- A command that is sent stands in the log before that, and where the plan could be given up the operator did not ask
-- for a pause and the log is whole. A plan is given up only before a command that opens a slot, where no slot is open
-- and there is a reason for it.
abbrev pub Sees : {S L : Type 0} → Around S L → watch.Watch S L → Order → Bool → watch.Watch S L → Type 0
Sees {S} by w o true w' = Logs by.took (log_command_text o.node o.command) w.run.log w'.run.log
    × (w'.run.kind ≡ kind_of o) × (w'.run.counts ≡ w.run.counts) × (w'.run.nodes ≡ w.run.nodes) × IsOfRun w w'
    × ((MayPauseBefore w.run o → ⊥)
    ⊎ (((s : S) × by.asks w.run_context false s) × (HasBrokenLog w'.run.log → ⊥)))
Sees by w o false w' = MayPauseBefore w.run o × HasReason by w o w'
    × (w'.run.counts ≡ w.run.counts) × (w'.run.nodes ≡ w.run.nodes) × IsOfRun w w'

-- a reply is counted and logged, and where keys were moved the pace is kept
abbrev pub Hears : {S L : Type 0} → Around S L → watch.Watch S L → AdminReply → watch.Watch S L → Type 0
Hears by w reply w' = Logs by.took (log_reply_text reply) w.run.log w'.run.log
    × (w'.run.counts ≡ counted w.run.kind reply w.run.counts) × (w'.run.nodes ≡ w.run.nodes) × IsOfRun w w'
    × IfSome w.pace (Paces by.tells by.waits w.run.kind (counted w.run.kind reply w.run.counts).keys)

-- the line of a command without a reply, or with one by which the plan can't continue
abbrev pub lost_text : PortFault → List ℕ
lost_text Wire = codes "no good answer\n"
lost_text other = log_fault_text other

-- what is lost is logged
abbrev pub Misses : {S L : Type 0} → (took : L → List ℕ → L → Type 0) → watch.Watch S L → PortFault → watch.Watch S L
    → Type 0
Misses took w fault w' = Logs took (lost_text fault) w.run.log w'.run.log
    × (w'.run.counts ≡ w.run.counts) × (w'.run.nodes ≡ w.run.nodes) × IsOfRun w w'
