-- What a rehearsal prints of each outcome, and the status that it leaves.
use Rattle.std.specs.Prelude.{◌≡◌, ℕ, List, [], ◌∷◌, ◌++◌, length, codes, decimal, Option, None, Some}
use Rattle.cluster_admin.specs.declared.admin.AdminFault.{AdminFault}
use Rattle.cluster_admin.specs.declared.admin.AdminFault.TheVariants.{NotOwner, AlreadyOwner, UnknownNode, KeysRemain}
use Rattle.cluster_admin.specs.declared.admin.AdminFault.TheVariants.{SameNode, Busy, NotImporting}
use Rattle.cluster_admin.specs.declared.admin.AdminReply.{AdminReply}
use Rattle.cluster_admin.specs.declared.admin.AdminReply.TheVariants as reply
use Rattle.plan_runner.specs.declared.stop_cause.StopCause.{StopCause}
use Rattle.plan_runner.specs.declared.stop_cause.StopCause.TheVariants.{Refused, Memory, StrangeReply, Abandoned, Limit}
use Rattle.plan_runner.specs.declared.stop_cause.StopCause.TheVariants.{Lost}
use Rattle.transcripts.specs.declared.transcript.Transcript.{Transcript}
use Rattle.transcripts.specs.Printing.{line, bulk_text}

-- a text's line
abbrev pub closed : List ℕ → List ℕ
closed t = t ++ 10 ∷ []

-- ---- an administrator's reply

-- without the `-` of an error
abbrev pub fault_text : AdminFault → List ℕ
fault_text NotOwner = codes "ERR the node does not own the slot"
fault_text AlreadyOwner = codes "ERR the node already owns the slot"
fault_text UnknownNode = codes "ERR unknown node"
fault_text KeysRemain = codes "ERR the node still holds keys of the slot"
fault_text SameNode = codes "ERR the node itself is named"
fault_text Busy = codes "ERR Target instance replied with error: BUSYKEY Target key name already exists."
fault_text NotImporting = codes "ERR Target instance replied with error: ERR the slot is not importing"

-- each key as a bulk after two spaces
abbrev pub key_lines : List (List ℕ) → List ℕ
key_lines [] = []
key_lines (k ∷ ks) = line 2 36 (bulk_text k) ++ key_lines ks

abbrev pub keys_text : List (List ℕ) → List ℕ
keys_text ks = line 0 42 (decimal (length ks)) ++ key_lines ks

abbrev pub admin_text : AdminReply → List ℕ
admin_text reply.Ok = closed (codes "+OK")
admin_text reply.NoKey = closed (codes "+NOKEY")
admin_text (reply.Keys ks) = keys_text ks
admin_text (reply.Refused f) = line 0 45 (fault_text f)

-- ---- a plan's way

-- the text of the refusal, or the cause with its number
abbrev pub stop_text : StopCause → List ℕ
stop_text (Refused n f) = fault_text f
stop_text Memory = codes "2 Memory"
stop_text StrangeReply = codes "3 StrangeReply"
stop_text Abandoned = codes "4 Abandoned"
stop_text Limit = codes "5 Limit"
stop_text Lost = codes "6 Lost"

abbrev pub verified_text : ℕ → List ℕ
verified_text n = closed (codes "verified " ++ decimal n ++ codes " commands")

abbrev pub refused_text : List ℕ → List ℕ
refused_text t = closed (codes "refused: " ++ t)

abbrev pub done_text : ℕ → List ℕ
done_text n = closed (codes "done " ++ decimal n ++ codes " commands")

abbrev pub stopped_text : ℕ → StopCause → List ℕ
stopped_text n c = closed (codes "stopped at command " ++ decimal n ++ codes ": " ++ stop_text c)

abbrev pub abandoned_text : ℕ → List ℕ
abandoned_text n = closed (codes "abandoned after " ++ decimal n ++ codes " commands")

abbrev pub unfinished_text : ℕ → List ℕ
unfinished_text n = closed (codes "unfinished after " ++ decimal n ++ codes " commands")

-- ---- whether the events are honest

-- the number of the first event that is not honest, if there is one
abbrev pub honesty_text : Option ℕ → List ℕ
honesty_text None = closed (codes "honest")
honesty_text (Some number) = closed (codes "dishonest event " ++ decimal number)

-- ---- what a call prints

-- the text stands after what was printed, and the status is this one
abbrev pub Prints : (old new : Transcript) → (text : List ℕ) → (status : ℕ) → Type 0
Prints old new text status = (new.printed.items ≡ old.printed.items ++ text) × (new.status ≡ status)
