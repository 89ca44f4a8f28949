-- What is said of a cluster of servers that is surveyed.
use Rattle.std.specs.Prelude.{◌≡◌, ◌↔◌, ◌⊎◌, ◌||◌, ⊤, ℕ, List, [], ◌++◌, Some, length, slice_get}
use Rattle.byte_streams.specs.Streams.{Output}
use Rattle.cluster_survey.specs.Found.{IsFoundBeside}
use Rattle.server_links.specs.Exchanges.{Answer}
use Rattle.cluster_admin.specs.Surveys.{Survey}
use Rattle.server_commands.specs.declared.book.Server.{Server}
use Rattle.server_phases.specs.ServerPhases.{ServerPhases, ShowsPhases}
use Rattle.server_phases.specs.Texts.{AreLines}
use Rattle.server_replicas.specs.Replicas.{AreNodeTexts, Asking, IsValkey}
use Rattle.server_versions.specs.Asking.{AreToldBy}
use Rattle.server_versions.specs.Telling.{version_lines}
use Rattle.server_versions.specs.declared.versions.ServerVersion.{ServerVersion}
use Rattle.command_words.specs.declared.usage.SurveyWords.{SurveyWords}
use Rattle.survey_details.specs.Masters.{AreMasterTexts, Telling}
use Rattle.survey_details.specs.declared.details.Details.{Details}
use Rattle.survey_texts.specs.Texts.{IsSurveyText}
use Rattle.transcripts.specs.Writing.{Writes}
use Rattle.cluster_inspection.specs.Starts.{IsClean, SaysNoStart}

-- the lines of each open slot, ascending, with some numbers of keys
abbrev pub HasPhaseLines : Survey → (lines : List ℕ) → Type 0
HasPhaseLines v lines = (phases : ServerPhases) → ShowsPhases v phases
    → AreLines {C = ⊤} (λ c n s keys d. ⊤) (length v.rows) phases 16384 tt lines tt

-- the survey that these lines of its masters begin, with 0 exactly where it is clean; or why there is none
abbrev pub SaysLines : (masters : List ℕ) → (left : List Server) → Survey → (status : ℕ) → (text : List ℕ) → Type 0
SaysLines masters left v status text = SaysNoStart status text
    ⊎ (((lines : List ℕ) × HasPhaseLines v lines × IsSurveyText masters left v lines text)
    × ((status ≡ 0) ↔ IsClean v))

-- what the words ask for of each master: a full survey has the ranges of slots
abbrev pub details_of : SurveyWords → Details
details_of g = record { slots = g.slots || g.full; keys = g.keys }

-- The survey of a cluster that was found beside such masters, with the texts of its own by what these told, with 0
-- exactly where it is clean, and something is shown beside; or why there is none.
abbrev pub SaysSurvey : (telling : List Server → Telling) → Details → (shown : Type 0) → (status : ℕ)
    → (text : List ℕ) → Type 0
SaysSurvey telling details shown status text = SaysNoStart status text
    ⊎ ((left b : List Server) × (v : Survey) × (epochs : List ℕ) × (links : ℕ) × IsFoundBeside left b v epochs links
    × ((masters lines : List ℕ) × AreMasterTexts (telling b) details b v (length b) masters
    × HasPhaseLines v lines × IsSurveyText masters left v lines text) × ((status ≡ 0) ↔ IsClean v) × shown)

-- whatever the masters told
abbrev pub any_telling : List Server → Telling
any_telling b = record { keys = (λ n keys. ⊤); replicas = (λ n told. ⊤) }

abbrev pub SaysSomeSurvey : Details → (shown : Type 0) → (status : ℕ) → (text : List ℕ) → Type 0
SaysSomeSurvey = SaysSurvey any_telling

-- none of the versions is one of Valkey
abbrev pub NoneIsValkey : List ServerVersion → Type 0
NoneIsValkey xs = (n : ℕ) → (x : ServerVersion) → slice_get xs n ≡ Some x → IsValkey x → ⊥

-- The lines of some versions are written, as far as they can be, and more lines after them, if one is of Valkey.
abbrev pub ShowsVersions : {E : Type 0} → Output E → Type 0
ShowsVersions e = (versions : List ServerVersion) × (more : List ℕ) × (NoneIsValkey versions → more ≡ [])
    × Writes e.took e.failures (version_lines versions ++ more) e.before e.after

-- Those are the versions of the servers of the book, as each told its own, and more is what their replicas lack.
abbrev pub ShowsTold : {L E : Type 0} → (exchanges : L → Answer → L → Type 0) → Asking L → List Server → Survey
    → Output E → Type 0
ShowsTold exchanges asking b v e = (versions : List ServerVersion) × (more : List ℕ)
    × AreToldBy exchanges (length b) versions × AreNodeTexts asking b v versions (length b) more
    × Writes e.took e.failures (version_lines versions ++ more) e.before e.after
