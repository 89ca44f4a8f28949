-- Failed masters that may take the slots of a plan's targets when they return.
use Rattle.std.specs.Prelude.{◌≡◌, ◌≢◌, ◌⊎◌, ℕ, List, [], Option, None, Some, String, string_bytes}
use Rattle.cluster_inspection.specs.Refusals.{IsNoClusterOf, Says}
use Rattle.cluster_inspection.specs.Starts.{IsNumberedBy, IsUnfound}
use Rattle.cluster_inspection.specs.declared.no_cluster.NoCluster.{NoCluster}
use Rattle.cluster_inspection.specs.declared.refusal.Refusal.{Refusal}
use Rattle.cluster_survey.specs.ClusterFaults as cluster
use Rattle.cluster_survey.specs.Found.{IsFoundBeside}
use Rattle.cluster_survey.specs.declared.cluster_fault.ClusterFault.TheVariants as fault
use Rattle.cluster_views.specs.declared.fault.SurveyFault.{SurveyFault}
use Rattle.cluster_admin.specs.Surveys.{Survey}
use Rattle.node_names.specs.Names.{AreNames, Names}
use Rattle.plan_language.specs.declared.line.Line.{Line}
use Rattle.server_commands.specs.declared.book.Server.{Server}
use Rattle.server_shards.specs.Returning.{Asks}
use Rattle.server_shards.specs.Targets.{IsUndecided, NoneReturns, Returns}
use Rattle.transcripts.specs.OutcomeTexts.{refused_text}
use Rattle.transcripts.specs.RunTexts.{unsurveyed_text}

-- the IDs of those that never return, with commas between them
abbrev pub dead_ids : {A : Type 0} → Option (String A) → List ℕ
dead_ids None = []
dead_ids (Some s) = string_bytes s

-- no master was left out as failed; or the cluster was found once more, and none of those that are left out may take
-- the slots of a target of the lines
abbrev pub AreAway : {L : Type 0} → Asks L → (dead : List ℕ) → Names → (left : List Server) → (lines : List Line)
    → Type 0
AreAway asks dead names left lines = (left ≡ [])
    ⊎ ((b : List Server) × (now : List Server) × (v : Survey) × (epochs : List ℕ) × (links : ℕ)
    × IsFoundBeside now b v epochs links × (AreNames names → IsNumberedBy names b) × NoneReturns asks b dead now lines)

-- Why lines are not run at these servers: one of those that are left out may take the slots of a target, which is told;
-- or a server that was asked is at fault, which is told.
abbrev pub IsHeldBack : {L : Type 0} → Asks L → List Server → (dead : List ℕ) → (left : List Server)
    → (lines : List Line) → Refusal → Type 0
IsHeldBack asks b dead left lines r =
    ((reason : List ℕ) × Returns asks b dead left lines reason × Says (refused_text reason) r)
    ⊎ ((e : SurveyFault) × IsUndecided asks b dead left lines e
    × Says (unsurveyed_text (cluster.text_of (fault.Survey e))) r)

-- no cluster is found
abbrev pub HasNoCluster : Refusal → Type 0
HasNoCluster r = (none : NoCluster) × IsUnfound none × IsNoClusterOf none r

-- Only where masters were left out as failed anything is refused: the cluster is not found once more, or its lines are
-- not run at the servers that are found.
abbrev pub IsWithheld : {L : Type 0} → Asks L → (dead : List ℕ) → Names → (left : List Server) → (lines : List Line)
    → Refusal → Type 0
IsWithheld asks dead names left lines r = (left ≢ []) × (HasNoCluster r
    ⊎ ((b : List Server) × (now : List Server) × (v : Survey) × (epochs : List ℕ) × (links : ℕ)
    × IsFoundBeside now b v epochs links × (AreNames names → IsNumberedBy names b)
    × IsHeldBack asks b dead now lines r))
