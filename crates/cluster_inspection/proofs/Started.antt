-- Why there is nothing to start from.
use Rattle.std.proofs.Common.{◌≡◌, ℕ, List, inl, inr, subst, sym}
use Rattle.transcripts.specs.declared.transcript.Transcript.{Transcript}
use Rattle.cluster_inspection.specs.Starts.{IsUnfound}
use Rattle.cluster_inspection.specs.Refusals.{IsRefusal, IsNoClusterOf, SaysRefusal, TellsRefusal}
use Rattle.cluster_inspection.specs.declared.no_cluster.NoCluster.{NoCluster}
use Rattle.cluster_inspection.specs.declared.no_cluster.NoCluster.TheVariants.{Memory, Answer}
use Rattle.cluster_inspection.specs.declared.refusal.Refusal.{Refusal}
use Rattle.cluster_inspection.specs.declared.refusal.Refusal.TheVariants as refusal
use Rattle.cluster_inspection.proofs.Told.{IsReported, failed, written}

pub no_cluster_refusal : (u : NoCluster) (r : Refusal) → IsUnfound u → IsNoClusterOf u r → IsRefusal r
no_cluster_refusal Memory r found is = subst IsRefusal (sym is) tt
no_cluster_refusal (Answer t) r found is = subst IsRefusal (sym is) (inl found)

status_one : (status : ℕ) (text : List ℕ) → SaysRefusal status text → status ≡ 1
status_one status text (inl unfound) = unfound.0
status_one status text (inr refused) = refused.0

said : (u : Refusal) (t : Transcript) → u ≡ refusal.Answer t → IsRefusal u → SaysRefusal t.status t.printed.items
said u t is why = subst IsRefusal is why

-- why is reported
pub told_refusal : {W : Type 0} (took : W → List ℕ → W → Type 0) (failures : W → ℕ) (u : Refusal) (t : Transcript)
    (writer writer' : W)
    (status : ℕ) → u ≡ refusal.Answer t → IsRefusal u
    → IsReported (record { took = took; failures = failures; before = writer; after = writer' }) t.status
    t.printed.items status
    → TellsRefusal (record { took = took; failures = failures; before = writer; after = writer' }) status
told_refusal took failures u t writer writer' status is why reported =
    let text = t.printed.items in
    let says = said u t is why in
    let one = status_one t.status text says in (
      failed took failures t.status text writer writer' status one reported,
      inl (
        text,
        subst (λ n. SaysRefusal n text) one says,
        written took failures t.status text writer writer' status reported,
      ),
    )
