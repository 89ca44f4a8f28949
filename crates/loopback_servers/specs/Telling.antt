-- What is written of a cluster that is served, whether or not it comes to its end: its lines in their order, as far as
-- it came, and each of them is true.
use Rattle.std.specs.Prelude.{◌≡◌, ◌⊎◌, ◌++◌, ℕ, List, [], None, Option, Some, codes, length}
use Rattle.byte_streams.specs.Streams.{Output}
use Rattle.cluster_world.specs.AdminCalls.{calls}
use Rattle.cluster_world.specs.Trails.{Trail}
use Rattle.cluster_admin.specs.declared.call.AdminCall.{AdminCall}
use Rattle.key_slots.specs.Owners.{Owners}
use Rattle.loopback_servers.specs.Announcing.{Announces, MayWrite, closed_text, end_status, end_text, serving_text}
use Rattle.loopback_servers.specs.Announcing.{verified_line}
use Rattle.loopback_servers.specs.Carrying.{EndsBy, line_commands, verified_over}
use Rattle.loopback_servers.specs.Served.{IsClosedTrail}
use Rattle.loopback_servers.specs.declared.options.ServeOptions.{ServeOptions}
use Rattle.loopback_servers.specs.declared.plan_beside.PlanEnd.{PlanEnd}
use Rattle.plan_language.specs.PlanView.{PlanView}
use Rattle.plan_runner.specs.Verifying.{Verified}
use Rattle.transcripts.specs.Writing.{Writes}

-- ---- the plan's end

-- By the calls at the end of the seat's list the plan ended, and this is the line that says how, and the status of
-- that. Where there is no plan there are no calls, and no line.
abbrev pub TellsEnd : Option Verified → (before after : List AdminCall) → (line : List ℕ) → (status : ℕ) → Type 0
TellsEnd None before after line status = (after ≡ before) × (line ≡ []) × (status ≡ 0)
TellsEnd (Some plan) before after line status =
    (end : PlanEnd) × EndsBy plan before after end × (line ≡ end_text end) × (status ≡ end_status end)

-- the plan ended so, and that was printed
abbrev pub IsRunBeside : {W : Type 0} → Output W → Option Verified → (before after : List AdminCall) → (status : ℕ)
    → Type 0
IsRunBeside w plan before after status = (line : List ℕ) × TellsEnd plan before after line status
    × Announces w.took w.failures line w.before w.after

-- the plan ended in some way, and of that nothing was printed, or its line, whole or up to a write that failed
abbrev pub MayTellEnd : {W : Type 0} → Output W → Option Verified → (before : List AdminCall) → Type 0
MayTellEnd w plan before = (after : List AdminCall) × (line : List ℕ) × (status : ℕ)
    × TellsEnd plan before after line status × MayWrite w.took w.failures line w.before w.after

-- ---- the text from the ports on

-- to the plan's end
abbrev pub ended_text : ServeOptions → (line : List ℕ) → List ℕ
ended_text options line = serving_text options.nodes options.base_port ++ line

-- the plan ended by some calls, and the text goes to the line of that
abbrev pub TellsToEnd : ServeOptions → Option Verified → (text : List ℕ) → Type 0
TellsToEnd options plan text = (after : List AdminCall) × (line : List ℕ) × (status : ℕ)
    × TellsEnd plan [] after line status × (text ≡ ended_text options line)

-- the plan ended by the calls of the trail of a closed cluster, and the text goes to the number of the trail's events
abbrev pub TellsToClose : ServeOptions → Owners → (base_port : ℕ) → Option Verified → (text : List ℕ) → Type 0
TellsToClose options owners base_port plan text = (t : Trail) × (line : List ℕ) × (status : ℕ)
    × IsClosedTrail owners base_port t × TellsEnd plan [] (calls t.events) line status
    × (text ≡ ended_text options line ++ closed_text (length t.events))

-- nothing yet; the ports; these and the plan's end; or these and the events of the trail
abbrev pub Tells : ServeOptions → Owners → (base_port : ℕ) → Option Verified → (text : List ℕ) → Type 0
Tells options owners base_port plan text = (text ≡ []) ⊎ ((text ≡ serving_text options.nodes options.base_port)
    ⊎ (TellsToEnd options plan text ⊎ TellsToClose options owners base_port plan text))

-- ---- what is written of it

-- such a text was written, whole or up to a write that failed
abbrev pub IsTold : {W : Type 0} → Output W → ServeOptions → Owners → (base_port : ℕ) → Option Verified → Type 0
IsTold w options owners base_port plan = (text : List ℕ) × Tells options owners base_port plan text
    × Writes w.took w.failures text w.before w.after

-- the same of the cluster of the options, with these owners, after the plan's count
abbrev pub IsToldBehind : {W : Type 0} → Output W → ServeOptions → Owners → Option PlanView → Type 0
IsToldBehind w options o plan = (text : List ℕ) × Tells options o options.base_port (verified_over o plan) text
    × Writes w.took w.failures (verified_line (line_commands o.nodes plan) ++ text) w.before w.after

-- the same; where memory ran out, which gives status 1, that is told after it
abbrev pub IsToldAtEnd : {W : Type 0} → Output W → ServeOptions → Owners → Option PlanView → (status : ℕ) → Type 0
IsToldAtEnd {W} w options o plan status = IsToldBehind w options o plan ⊎ ((status ≡ 1) × ((mid : W)
    × IsToldBehind (record { took = w.took; failures = w.failures; before = w.before; after = mid }) options o plan
    × Writes w.took w.failures (codes "out of memory\n") mid w.after))
