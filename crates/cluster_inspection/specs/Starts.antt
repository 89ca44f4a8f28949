-- Where a plan starts: the table of the slots' owners, or why there is none.
use Rattle.std.specs.Prelude.{◌≡◌, ◌⊎◌, ◌++◌, ℕ, List, [], length, Option, None, Some, codes, string_bytes, unwrap_or}
use Rattle.cluster_admin.specs.Surveys.{Survey, closed_survey, row_at}
use Rattle.command_words.specs.declared.usage.Start.{Start}
use Rattle.command_words.specs.declared.usage.Start.TheVariants.{Cluster, Even, Survey as BySurvey}
use Rattle.key_slots.specs.Owners.{IsEvenSplit, Owners}
use Rattle.cluster_survey.specs.Arranging.{AreNamed}
use Rattle.cluster_survey.specs.Found.{IsFound}
use Rattle.cluster_survey.specs.Masters.{IsAscending}
use Rattle.node_names.specs.Names.{Names}
use Rattle.plan_language.specs.PlanView.{PlanView}
use Rattle.server_commands.specs.declared.book.Server.{Server}
use Rattle.survey_files.specs.Faults.{fault_text}
use Rattle.survey_files.specs.Surveys.{IsNoSurvey, IsSurveyIn}
use Rattle.survey_files.specs.declared.file_fault.FileFault.{FileFault}
use Rattle.survey_texts.specs.Expecting.{IsExpected}
use Rattle.transcripts.specs.RunTexts.{open_text, unsurveyed_text}
use Rattle.cluster_inspection.specs.declared.no_cluster.NoCluster.{NoCluster}
use Rattle.cluster_inspection.specs.declared.no_cluster.NoCluster.TheVariants.{Memory, Answer}

-- ---- a cluster of servers

-- all servers tell the same owners, and none has a mark
abbrev pub IsClean : Survey → Type 0
IsClean v = v ≡ closed_survey (length v.rows) (row_at v 0).owners

-- the owners that n0 tells
abbrev pub owners_told : Survey → Owners
owners_told v = record { nodes = length v.rows; owners = (row_at v 0).owners }

-- the names of nodes that a plan's text lists, none where it is of a version without them
abbrev pub names_listed : PlanView → Names
names_listed plan = unwrap_or plan.names []

-- each name is that of its node's server; without names the servers stand in ascending order of address
pub record IsNumberedBy (names : Names) (b : List Server) : Type 0 where
  pub named : AreNamed names b
  pub ascending : names ≡ [] → IsAscending b

-- such a cluster of these servers, numbered by the names, was found and surveyed, and all of them tell these owners
abbrev pub AreOwnersOf : Names → List Server → Owners → Type 0
AreOwnersOf names b o = (v : Survey) × (epochs : List ℕ) × (links : ℕ)
    × IsFound b v epochs links × IsNumberedBy names b × IsClean v × (o ≡ owners_told v)

abbrev pub AreCleanOwners : Names → Owners → Type 0
AreCleanOwners names o = (b : List Server) × AreOwnersOf names b o

-- each name stands for the node that some text expects, where a file with one is named
abbrev pub IsExpectedBy : {A : Type 0} → (file : Option A) → List Server → Type 0
IsExpectedBy None b = Unit {0}
IsExpectedBy (Some path) b = (text : List ℕ) × IsExpected b text None

-- ---- the file of a survey

-- some text is a survey of these servers, numbered by the names, and tells these owners
abbrev pub AreOwnersIn : Names → List Server → Owners → Type 0
AreOwnersIn names b o = (text : List ℕ) × IsSurveyIn names text b o

-- the file can't be read, for some reason
abbrev pub unread_reason : (path reason : List ℕ) → List ℕ
unread_reason path reason = path ++ (codes " could not be read: " ++ reason)

-- some text is no such survey
abbrev pub IsNoSurveyReason : (reason : List ℕ) → Type 0
IsNoSurveyReason reason = (names : Names) × (text : List ℕ) × (f : FileFault) × IsNoSurvey names text f
    × (reason ≡ codes "--survey: " ++ fault_text f)

-- the one or the other is told
abbrev pub SaysNoFile : (path : List ℕ) → (status : ℕ) → (text : List ℕ) → Type 0
SaysNoFile path status text = (status ≡ 1) × ((reason : List ℕ) × (text ≡ unsurveyed_text reason)
    × (((why : List ℕ) × (reason ≡ unread_reason path why)) ⊎ IsNoSurveyReason reason))

-- that is the answer, or memory ran out
abbrev pub IsNoFile : (path : List ℕ) → NoCluster → Type 0
IsNoFile path Memory = Unit {0}
IsNoFile path (Answer t) = SaysNoFile path t.status t.printed.items

-- ---- where a plan starts

-- An even split of these sizes, or the owners that all servers of a clean cluster tell, which has this book; or those
-- of the file of a survey.
abbrev pub StartsFrom : Start → Names → (book : Option (List Server)) → Owners → Type 0
StartsFrom (Even s) names None o = IsEvenSplit s.nodes s.owning o
StartsFrom (Even s) names (Some b) o = ⊥
StartsFrom (Cluster g) names None o = ⊥
StartsFrom (Cluster g) names (Some b) o = AreOwnersOf names b o
StartsFrom (BySurvey path) names None o = ⊥
StartsFrom (BySurvey path) names (Some b) o = AreOwnersIn names b o

-- there is no survey of the servers, or slots of theirs are open
abbrev pub SaysNoStart : (status : ℕ) → (text : List ℕ) → Type 0
SaysNoStart status text =
    (status ≡ 1) × ((text ≡ open_text) ⊎ ((reason : List ℕ) × (text ≡ unsurveyed_text reason)))

abbrev pub SaysUnstarted : Start → (status : ℕ) → (text : List ℕ) → Type 0
SaysUnstarted (Even s) status text = ⊥
SaysUnstarted (Cluster g) status text = SaysNoStart status text
SaysUnstarted (BySurvey path) status text = SaysNoFile (string_bytes path) status text

-- such a text is the answer, or memory ran out
abbrev pub IsUnstarted : Start → NoCluster → Type 0
IsUnstarted start Memory = Unit {0}
IsUnstarted start (Answer t) = SaysUnstarted start t.status t.printed.items

-- that there is no survey is told, for this reason; or memory ran out
abbrev pub IsUnsurveyed : (reason : List ℕ) → NoCluster → Type 0
IsUnsurveyed reason Memory = Unit {0}
IsUnsurveyed reason (Answer t) = (t.status ≡ 1) × (t.printed.items ≡ unsurveyed_text reason)

-- there is no cluster that could be surveyed
abbrev pub IsUnfound : NoCluster → Type 0
IsUnfound Memory = Unit {0}
IsUnfound (Answer t) = SaysNoStart t.status t.printed.items

-- the fault of a text that is no survey is told; or memory ran out
abbrev pub TellsNoSurvey : Names → (text : List ℕ) → NoCluster → Type 0
TellsNoSurvey names text none =
    (f : FileFault) × IsNoSurvey names text f × IsUnsurveyed (codes "--survey: " ++ fault_text f) none
