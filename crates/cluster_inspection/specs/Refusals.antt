-- Why a command that asks servers can't continue.
use Rattle.std.specs.Prelude.{◌≡◌, ◌⊎◌, ℕ, List, Err, codes}
use Rattle.byte_streams.specs.Inputs.{IsWholeInput}
use Rattle.byte_streams.specs.Streams.{Input, Output}
use Rattle.byte_streams.specs.declared.reading.Unread.{Unread}
use Rattle.byte_streams.specs.declared.reading.Unread.TheVariants as unread
use Rattle.command_words.specs.declared.usage.Start.{Start}
use Rattle.command_words.specs.declared.usage.Start.TheVariants.{Cluster, Even, Survey}
use Rattle.plan_language.specs.Faults.{parse_fault_text}
use Rattle.plan_language.specs.Texts.{Parsed, any_plan_of_text, plan_of_text}
use Rattle.plan_language.specs.declared.parse_fault.ParseFault.{ParseFault}
use Rattle.transcripts.specs.OutcomeTexts.{refused_text}
use Rattle.transcripts.specs.declared.transcript.Transcript.{Transcript}
use Rattle.transcripts.specs.Writing.{Writes}
use Rattle.cluster_inspection.specs.Starts.{SaysNoStart}
use Rattle.cluster_inspection.specs.declared.no_cluster.NoCluster.{NoCluster}
use Rattle.cluster_inspection.specs.declared.no_cluster.NoCluster.TheVariants as unstarted
use Rattle.cluster_inspection.specs.declared.refusal.Refusal.{Refusal}
use Rattle.cluster_inspection.specs.declared.refusal.Refusal.TheVariants as refusal

abbrev pub IsUnreadOf : Unread → Refusal → Type 0
IsUnreadOf unread.Memory u = u ≡ refusal.Memory
IsUnreadOf unread.Failed u = u ≡ refusal.Unread

abbrev pub IsNoClusterOf : NoCluster → Refusal → Type 0
IsNoClusterOf unstarted.Memory u = u ≡ refusal.Memory
IsNoClusterOf (unstarted.Answer t) u = u ≡ refusal.Answer t

-- there is no survey of the servers, slots of theirs are open, or what is asked for is refused
abbrev pub SaysRefusal : (status : ℕ) → (text : List ℕ) → Type 0
SaysRefusal status text =
    SaysNoStart status text ⊎ ((status ≡ 1) × ((reason : List ℕ) × (text ≡ refused_text reason)))

-- it is refused for this reason
abbrev pub IsRefused : (reason : List ℕ) → Refusal → Type 0
IsRefused reason refusal.Memory = ⊥
IsRefused reason refusal.Unread = ⊥
IsRefused reason (refusal.Answer t) = (t.status ≡ 1) × (t.printed.items ≡ refused_text reason)

-- this text is the answer, with the status 1; or memory ran out
abbrev pub Says : (text : List ℕ) → Refusal → Type 0
Says text refusal.Memory = Unit {0}
Says text refusal.Unread = ⊥
Says text (refusal.Answer t) = (t.status ≡ 1) × (t.printed.items ≡ text)

-- such a text is the answer, memory ran out, or the plan could not be read
abbrev pub IsRefusal : Refusal → Type 0
IsRefusal refusal.Memory = Unit {0}
IsRefusal refusal.Unread = Unit {0}
IsRefusal (refusal.Answer t) = SaysRefusal t.status t.printed.items

-- a text is no plan, and its fault is told
abbrev pub TellsNoPlan : Parsed → Transcript → Type 0
TellsNoPlan parsed t = (f : ParseFault) × (parsed ≡ Err f) × (t.status ≡ 1)
    × (t.printed.items ≡ refused_text (parse_fault_text f))

-- that is the answer, or memory ran out
abbrev pub IsNoPlan : Parsed → Refusal → Type 0
IsNoPlan parsed refusal.Memory = Unit {0}
IsNoPlan parsed refusal.Unread = ⊥
IsNoPlan parsed (refusal.Answer t) = TellsNoPlan parsed t

-- the plan that a text is where it starts from an even split; for a cluster of servers or its survey it may list nodes
abbrev pub plan_from : Start → List ℕ → Parsed
plan_from (Even s) text = plan_of_text text
plan_from (Cluster g) text = any_plan_of_text text
plan_from (Survey path) text = any_plan_of_text text

-- such is the answer to what was read, memory ran out, or a read failed
abbrev pub IsNoPlanIn : {R : Type 0} → (plan_of : List ℕ → Parsed) → Input R → Refusal → Type 0
IsNoPlanIn plan_of i refusal.Memory = Unit {0}
IsNoPlanIn plan_of i refusal.Unread = Unit {0}
IsNoPlanIn plan_of i (refusal.Answer t) =
    (input : List ℕ) × IsWholeInput i.gave i.ends i.before i.after input × TellsNoPlan (plan_of input) t

-- why is told, as far as that could be written; or memory ran out, or the plan could not be read
abbrev pub TellsRefusal : {W : Type 0} → Output W → (status : ℕ) → Type 0
TellsRefusal o status = (status ≡ 1)
    × (((text : List ℕ) × SaysRefusal 1 text × Writes o.took o.failures text o.before o.after)
    ⊎ (Writes o.took o.failures (codes "out of memory\n") o.before o.after ⊎ (o.after ≡ o.before)))
