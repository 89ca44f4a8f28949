-- How servers are asked for the keys of slots (the page of CLUSTER COUNTKEYSINSLOT).
use Rattle.std.specs.Prelude.{◌≡◌, ◌⊎◌, ◌<◌, ℕ, ℤ, pos, List, Result, Ok, Err}
use Rattle.cluster_views.specs.Faults.{error_fault}
use Rattle.cluster_views.specs.declared.fault.SurveyFault.{SurveyFault}
use Rattle.cluster_views.specs.declared.fault.SurveyFault.TheVariants as fault
use Rattle.server_links.specs.Exchanges.{Answer}
use Rattle.resp2_wire.specs.declared.reply.Reply.TheVariants as reply
use Rattle.server_commands.specs.NamedErrors.{named_error}
use Rattle.server_commands.specs.Spelling.{count_words, spelled}
use Rattle.server_links.specs.Links.{Exchanges}
use Rattle.server_links.specs.Streams.{Streams}
use Rattle.server_links.specs.declared.link.Link as link

-- `CLUSTER COUNTKEYSINSLOT slot`
abbrev pub count_request : (slot : ℕ) → List ℕ
count_request slot = spelled (count_words slot)

-- that request goes over a connection
unfoldable pub AsksCount : {I O : Type 0} → Streams I O → (slot : ℕ) → link.Link I O → Answer → link.Link I O → Type 0
AsksCount by slot l answer l' = Exchanges by (count_request slot) l answer l'

-- the number is the count, or it is none of 32 bits, and the node is at fault
abbrev pub IsNumber : (node : ℕ) → ℤ → Result ℕ SurveyFault → Type 0
IsNumber n z (Ok k) = z ≡ pos k
IsNumber n z (Err e) = (e ≡ fault.Strange n) × ((k : ℕ) → k < 4294967296 → z ≡ pos k → ⊥)

-- what the answer of the node says
abbrev pub Counts : (node : ℕ) → Answer → Result ℕ SurveyFault → Type 0
Counts n (Err f) r = r ≡ Err (fault.NoAnswer n)
Counts n (Ok (reply.Number z)) r = IsNumber n z r
Counts n (Ok (reply.Error t)) r = r ≡ Err (error_fault n (named_error t))
Counts n (Ok other) r = r ≡ Err (fault.Strange n)

-- One exchange over a link, which `exchanges` describes, and what its answer says; or out of memory, and nothing was
-- sent.
abbrev pub IsCounted : {L : Type 0} → (exchanges : L → Answer → L → Type 0) → (node : ℕ) → L → Result ℕ SurveyFault → L
    → Type 0
IsCounted exchanges n l r l' = ((r ≡ Err fault.Memory) × (l' ≡ l))
    ⊎ ((answer : Answer) × exchanges l answer l' × Counts n answer r)
