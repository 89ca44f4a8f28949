-- The owners that all servers of a clean cluster tell.
use Rattle.std.proofs.Common.{◌≡◌, ℕ, List, Option, Some, length, refl, subst}
use Rattle.std.specs.Prelude.{MatchOption}
use Rattle.cluster_admin.specs.Surveys.{Survey, row_at}
use Rattle.key_slots.specs.Owners.{Owners}
use Rattle.transcripts.specs.PlanVerdicts.{SaysCount, SaysFault}
use Rattle.node_names.specs.Names.{Names}
use Rattle.plan_language.specs.PlanView.{PlanView}
use Rattle.cluster_survey.specs.Found.{IsFound}
use Rattle.server_commands.specs.declared.book.Server.{Server}
use Rattle.cluster_inspection.specs.Starts.{AreCleanOwners, IsClean, IsNumberedBy, owners_told}

-- those of this node, which is n0
pub told_at : (v : Survey) (node : ℕ) (o : Owners) → o ≡ record
    { nodes = length v.rows; owners = (row_at v node).owners }
    → node ≡ 0 → o ≡ owners_told v
told_at v node o told is = subst (λ n. o ≡ record { nodes = length v.rows; owners = (row_at v n).owners }) is told

pub clean_owners : (names : Names) (b : List Server) (v : Survey) (epochs : List ℕ) (links : ℕ) (o : Owners)
    → IsFound b v epochs links
    → IsNumberedBy names b → IsClean v → o ≡ owners_told v → AreCleanOwners names o
clean_owners names b v epochs links o found numbered clean told = (b, (v, epochs, links, found, numbered, clean, told))

-- what is said of a plan that is verified by them
pub says_count : {A : Type 0} (R : A → Type 0) (o : Owners) (v : Survey) (plan : PlanView) (found : Option A) (p : A)
    (status : ℕ)
    (text : List ℕ) → found ≡ Some p → o ≡ owners_told v
    → MatchOption found (SaysFault o plan status text) (λ p. R p × SaysCount o plan status text)
    → SaysCount (owners_told v) plan 0 text
says_count R o v plan found p status text is told says =
    let count = (subst (λ x. MatchOption x (SaysFault o plan status text) (λ p. R p × SaysCount o plan status text)) is
    says).1 in
    subst (λ w. SaysCount w plan 0 text) told (count.0, refl, count.2)
