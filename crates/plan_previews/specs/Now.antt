-- What is written where what is there is drawn.
use Rattle.std.specs.Prelude.{◌≡◌, ◌≢◌, ◌⊎◌, ℕ, List}
use Rattle.byte_streams.specs.Streams.{Output}
use Rattle.cluster_inspection.specs.Starts.{IsUnfound}
use Rattle.cluster_inspection.specs.Refusals.{IsNoClusterOf}
use Rattle.cluster_inspection.specs.declared.no_cluster.NoCluster.{NoCluster}
use Rattle.cluster_inspection.specs.declared.refusal.Refusal.{Refusal}
use Rattle.cluster_survey.specs.Found.{IsFound}
use Rattle.cluster_admin.specs.Surveys.{Survey}
use Rattle.plan_previews.specs.Standing.{IsSeenIn}
use Rattle.plan_previews.specs.Telling.{IsToldTo}
use Rattle.plan_previews.specs.declared.standing.Seen.{Seen}
use Rattle.server_commands.specs.declared.book.Server.{Server}
use Rattle.transcripts.specs.Writing.{Writes}

-- what some cluster shows that was found and surveyed
abbrev pub IsSeen : Seen → Type 0
IsSeen seen = (b : List Server) × (v : Survey) × (epochs : List ℕ) × (links : ℕ)
    × IsFound b v epochs links × IsSeenIn v seen

-- the picture is written whole, and the status is 0, or a write failed, and it is 1; the lines are told beside it
abbrev pub PutsSeen : {W E : Type 0} → Seen → Output W → Output E → (status : ℕ) → Type 0
PutsSeen seen o e status =
    (((status ≡ 0) × o.took o.before seen.picture.items o.after × (o.failures o.after ≡ o.failures o.before))
    ⊎ ((status ≡ 1) × (o.failures o.after ≢ o.failures o.before)))
    × Writes e.took e.failures seen.strange.items e.before e.after

-- The picture of what is there; or nothing is drawn, and why is told on the other writer.
abbrev pub DrawsNow : {W E : Type 0} → Output W → Output E → (status : ℕ) → Type 0
DrawsNow o e status = ((seen : Seen) × IsSeen seen × PutsSeen seen o e status)
    ⊎ ((o.after ≡ o.before)
    × ((none : NoCluster) × IsUnfound none × ((r : Refusal) × IsNoClusterOf none r × IsToldTo r e status)))
