-- What is written of a plan that is drawn.
use Rattle.std.specs.Prelude.{◌≡◌, ◌≢◌, ◌⊎◌, ℕ, List, codes}
use Rattle.byte_streams.specs.Streams.{Input, Output}
use Rattle.command_words.specs.declared.usage.Start.{Start}
use Rattle.plan_drawings.specs.Drawings.{drawing_text}
use Rattle.plan_previews.specs.Previews.{IsPlainIn, TellsWhy}
use Rattle.plan_previews.specs.declared.preview.Preview.{Preview}
use Rattle.transcripts.specs.Writing.{Writes}
use Rattle.transcripts.specs.declared.transcript.Transcript.{Transcript}

-- The picture is written whole, and the status is 0; or a write failed. Or memory ran out, which is told on the other
-- writer, and nothing is drawn.
abbrev pub Puts : {W E : Type 0} → (text : List ℕ) → Output W → Output E → (status : ℕ) → Type 0
Puts text o e status =
    ((status ≡ 0) × o.took o.before text o.after × (o.failures o.after ≡ o.failures o.before) × (e.after ≡ e.before))
    ⊎ (((status ≡ 1) × (o.failures o.after ≢ o.failures o.before) × (e.after ≡ e.before))
    ⊎ ((status ≡ 1) × (o.after ≡ o.before) × Writes e.took e.failures (codes "out of memory\n") e.before e.after))

-- The picture of what the plan that was read comes to; or nothing is drawn, and why is told on the other writer.
abbrev pub Draws : {R W E : Type 0} → Start → Input R → Output W → Output E → (status : ℕ) → Type 0
Draws start i o e status =
    ((p : Preview) × IsPlainIn start i p × Puts (drawing_text p.outline) o e status)
    ⊎ ((status ≡ 1) × (o.after ≡ o.before)
    × (((t : Transcript) × TellsWhy start i t × Writes e.took e.failures t.printed.items e.before e.after)
    ⊎ (Writes e.took e.failures (codes "out of memory\n") e.before e.after ⊎ (e.after ≡ e.before))))
