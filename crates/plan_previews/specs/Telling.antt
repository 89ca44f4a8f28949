-- How it is told that there is nothing to draw.
use Rattle.std.specs.Prelude.{◌≡◌, ◌≢◌, ◌⊎◌, ℕ, codes, take}
use Rattle.byte_streams.specs.Streams.{Output}
use Rattle.cluster_inspection.specs.declared.refusal.Refusal.{Refusal}
use Rattle.cluster_inspection.specs.declared.refusal.Refusal.TheVariants as refusal
use Rattle.transcripts.specs.Writing.{Writes}

-- the text, whole or up to a write that failed; the status is the answer's, or 1 after a failure
abbrev pub IsToldTo : {E : Type 0} → Refusal → Output E → (status : ℕ) → Type 0
IsToldTo refusal.Memory e status =
    (status ≡ 1) × Writes e.took e.failures (codes "out of memory\n") e.before e.after
IsToldTo refusal.Unread e status = (status ≡ 1) × (e.after ≡ e.before)
IsToldTo (refusal.Answer t) e status =
    ((status ≡ t.status) × e.took e.before t.printed.items e.after × (e.failures e.after ≡ e.failures e.before))
    ⊎ ((status ≡ 1) × ((n : ℕ) × e.took e.before (take n t.printed.items) e.after)
    × (e.failures e.after ≢ e.failures e.before))
