-- What a plan comes to before it runs, and why there is nothing to show.
use Rattle.std.specs.Prelude.{◌≡◌, ◌⊎◌, ℕ, List, [], ◌++◌, Option, None, Some, Ok, length}
use Rattle.byte_streams.specs.Inputs.{IsWholeInput}
use Rattle.byte_streams.specs.Streams.{Input}
use Rattle.cluster_inspection.specs.Refusals.{TellsNoPlan, plan_from}
use Rattle.cluster_inspection.specs.Starts.{AreCleanOwners, SaysNoStart, SaysUnstarted, StartsFrom}
use Rattle.cluster_inspection.specs.Starts.{names_listed}
use Rattle.cluster_inspection.specs.VerifyingAt.{line_of}
use Rattle.cluster_inspection.specs.declared.refusal.Refusal.{Refusal}
use Rattle.cluster_inspection.specs.declared.refusal.Refusal.TheVariants as refusal
use Rattle.command_words.specs.declared.usage.Start.{Start}
use Rattle.command_words.specs.declared.usage.Start.TheVariants.{Cluster, Even, Survey}
use Rattle.key_slots.specs.Owners.{Owners}
use Rattle.transcripts.specs.PlanVerdicts.{SaysCount, SaysFault}
use Rattle.plan_changes.specs.Outlines.{IsOutline}
use Rattle.plan_language.specs.Lines.{plan_commands}
use Rattle.plan_language.specs.PlanView.{PlanView}
use Rattle.plan_language.specs.Texts.{Parsed, any_plan_of_text}
use Rattle.plan_changes.specs.Loads.{load_of}
use Rattle.plan_previews.specs.Counted.{AreServers}
use Rattle.plan_previews.specs.declared.preview.Preview.{Preview}
use Rattle.server_commands.specs.declared.book.Server.{Server}
use Rattle.transcripts.specs.declared.transcript.Transcript.{Transcript}

-- the plan is legal from these owners, and the line says how many commands it stands for
abbrev pub IsVerdict : Owners → PlanView → Transcript → Type 0
IsVerdict o plan t = SaysCount o plan t.status t.printed.items

-- the same, and what the plan moves, where the keys of the slots are known
abbrev pub IsVerdictBy : Owners → PlanView → Option (List ℕ) → Transcript → Type 0
IsVerdictBy o plan None t = IsVerdict o plan t
IsVerdictBy o plan (Some keys) t = (line : List ℕ) × SaysCount o plan t.status line
    × (t.printed.items ≡ line ++ line_of (load_of keys (plan_commands o.nodes plan.lines)))

-- the plan is legal from these owners, and this is what it comes to, with these keys of the slots where they are known
pub record IsPreview (o : Owners) (plan : PlanView) (keys : Option (List ℕ)) (p : Preview) : Type 0 where
  pub verdict : IsVerdictBy o plan keys p.verdict
  pub commands : p.commands ≡ length (plan_commands o.nodes plan.lines)
  pub version : p.version ≡ plan.version
  pub outline : IsOutline o.nodes (plan_commands o.nodes plan.lines) o.owners keys p.outline

-- the owners where the plan starts, at a cluster of servers that is numbered by the names of the plan
abbrev pub StartsPlan : Start → PlanView → Owners → Type 0
StartsPlan start plan o = (book : Option (List Server)) × StartsFrom start (names_listed plan) book o

-- of a plan from an even split or the owners of a clean cluster, with no keys and no servers
abbrev pub IsPlainPreview : Start → Parsed → Preview → Type 0
IsPlainPreview start parsed p = (plan : PlanView) × (parsed ≡ Ok plan) × ((o : Owners) × StartsPlan start plan o
    × IsPreview o plan None p × (p.servers.items ≡ []))

-- of a plan from the owners of a clean cluster, with some keys of each slot, and its servers
abbrev pub IsPreviewAt : PlanView → Preview → Type 0
IsPreviewAt plan p = (o : Owners) × AreCleanOwners (names_listed plan) o
    × ((keys : List ℕ) × IsPreview o plan (Some keys) p)
    × ((book : List Server) × (length book ≡ o.nodes) × AreServers book p.servers.items)

abbrev pub IsCountedPreview : Parsed → Preview → Type 0
IsCountedPreview parsed p = (plan : PlanView) × (parsed ≡ Ok plan) × IsPreviewAt plan p

-- of the plan that was read
abbrev pub IsPlainIn : {R : Type 0} → Start → Input R → Preview → Type 0
IsPlainIn start i p =
    (input : List ℕ) × IsWholeInput i.gave i.ends i.before i.after input
    × IsPlainPreview start (plan_from start input) p

abbrev pub IsCountedIn : {R : Type 0} → Input R → Preview → Type 0
IsCountedIn i p =
    (input : List ℕ) × IsWholeInput i.gave i.ends i.before i.after input × IsCountedPreview (any_plan_of_text input) p

-- by the start: keys are counted at the servers of a cluster alone
abbrev pub IsShownIn : {R : Type 0} → Start → Input R → Preview → Type 0
IsShownIn (Even s) i p = IsPlainIn (Even s) i p
IsShownIn (Cluster g) i p = IsCountedIn i p
IsShownIn (Survey path) i p = IsPlainIn (Survey path) i p

-- ---- nothing to show

-- the plan is not legal, and the verifier's fault is told; or memory ran out
abbrev pub TellsFault : Owners → PlanView → Refusal → Type 0
TellsFault o plan refusal.Memory = Unit {0}
TellsFault o plan refusal.Unread = ⊥
TellsFault o plan (refusal.Answer t) = SaysFault o plan t.status t.printed.items

-- from the owners of a clean cluster; or its servers give no answer
abbrev pub TellsFaultAt : PlanView → Refusal → Type 0
TellsFaultAt plan refusal.Memory = Unit {0}
TellsFaultAt plan refusal.Unread = ⊥
TellsFaultAt plan (refusal.Answer t) = SaysNoStart t.status t.printed.items
    ⊎ ((o : Owners) × AreCleanOwners (names_listed plan) o × SaysFault o plan t.status t.printed.items)

-- a fault of a plan from such a start
abbrev pub TellsFaultIn : {R : Type 0} → Start → Input R → Transcript → Type 0
TellsFaultIn start i t = (input : List ℕ) × IsWholeInput i.gave i.ends i.before i.after input
    × ((plan : PlanView) × (plan_from start input ≡ Ok plan)
    × ((o : Owners) × StartsPlan start plan o × SaysFault o plan t.status t.printed.items))

-- the text is no plan
abbrev pub TellsNoPlanIn : {R : Type 0} → Start → Input R → Transcript → Type 0
TellsNoPlanIn start i t =
    (input : List ℕ) × IsWholeInput i.gave i.ends i.before i.after input × TellsNoPlan (plan_from start input) t

-- a fault of the text is told, why there is nothing to start from, or a fault of the plan
abbrev pub TellsWhy : {R : Type 0} → Start → Input R → Transcript → Type 0
TellsWhy start i t =
    TellsNoPlanIn start i t ⊎ (SaysUnstarted start t.status t.printed.items ⊎ TellsFaultIn start i t)

-- that is the answer, memory ran out, or the plan could not be read
abbrev pub IsUnshown : {R : Type 0} → Start → Input R → Refusal → Type 0
IsUnshown start i refusal.Memory = Unit {0}
IsUnshown start i refusal.Unread = Unit {0}
IsUnshown start i (refusal.Answer t) = TellsWhy start i t
