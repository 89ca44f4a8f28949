-- Open slots are settled before a plan continues with them.
use Rattle.std.specs.Prelude.{◌≡◌, ◌⊎◌, ℕ, List, Option}
use Rattle.cluster_admin.specs.Surveys.{Survey}
use Rattle.server_commands.specs.declared.book.Server.{Server}
use Rattle.server_commands.specs.declared.credentials.Credentials.{Credentials}
use Rattle.server_links.specs.declared.link.Link as link
use Rattle.server_runs.specs.Counts.{open_counts}
use Rattle.server_runs.specs.declared.counts.Counts.{Counts}
use Rattle.server_settling.specs.Asking.{Sends}
use Rattle.server_settling.specs.Opened.{SettlesBelow}
use Rattle.server_settling.specs.OpenStops.{text_of}
use Rattle.server_settling.specs.declared.open_stop.OpenStop.{OpenStop}
use Rattle.server_settling.specs.declared.open_stop.OpenStop.TheVariants as stop
use Rattle.server_settling.specs.declared.opened.Opened.{Opened}
use Rattle.server_settling.specs.declared.setup.SettleSetup.{SettleSetup}
use Rattle.cluster_inspection.specs.Refusals.{IsRefused}
use Rattle.cluster_runs.specs.declared.attempt.Attempt.{Attempt}
use Rattle.cluster_runs.specs.declared.prepared.Prepared as prepared
use Rattle.cluster_inspection.specs.declared.refusal.Refusal.{Refusal}
use Rattle.cluster_inspection.specs.declared.refusal.Refusal.TheVariants as refusal
use Rattle.server_links.specs.Streams.{Streams}

-- what `settles` leads to, and how many slots are open then
abbrev pub AreSettled : {S W : Type 0} → (settles : Opened → S → W → Type 0) → (links : S) → (told : W) → Counts
    → Type 0
AreSettled settles l w c = (o : Opened) × settles o l w × (c ≡ open_counts o.slots o.told)

-- so they were, and further requests went over the connections
abbrev pub WereSettled : {S W : Type 0} → (settles : Opened → S → W → Type 0) → (told : W) → Counts → Type 0
WereSettled {S} settles w c = (l : S) × AreSettled settles l w c

-- servers, what they said of their slots, and connections to them
pub record Servers (I O : Type 0) : Type 0 where
  pub book : List Server
  pub survey : Survey
  pub links : List (link.Link I O)

-- By the numbers of an attempt all slots of these servers that are migrating were settled, and these are the counts
-- from then on. What was found of each was written.
abbrev pub IsSettledFrom : {I O W : Type 0} → Streams I O → (writes : List ℕ → W → W → Type 0) → Attempt
    → Servers I O → Counts → Type 0
IsSettledFrom {I} {O} {W} by writes a first c = (x : SettleSetup) × (w : W) × (w' : W)
    × (x.book ≡ first.book) × (x.timeout ≡ a.timeout) × (x.batch ≡ a.batch)
    × WereSettled (SettlesBelow (Sends by) writes x first.survey 16384 first.links w) w' c

-- so it was done before a run, over connections to its servers
abbrev pub IsSettledRest : {I O W : Type 0} → Streams I O → (writes : List ℕ → W → W → Type 0) → Attempt
    → prepared.Prepared I O → Type 0
IsSettledRest {I} {O} by writes a r = (links : List (link.Link I O)) × IsSettledFrom by writes a
    (record { book = r.servers.book; survey = r.servers.surveyed.survey; links = links }) r.counts

-- why a plan can't continue is refused in these words, unless memory ran out
abbrev pub IsStopOf : (login : Option Credentials) → OpenStop → Refusal → Type 0
IsStopOf login e u = ((e ≡ stop.Memory) × (u ≡ refusal.Memory)) ⊎ IsRefused (text_of login e) u
