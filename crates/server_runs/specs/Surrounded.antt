-- What a run's watch does with the clock and the operator.
use Rattle.std.specs.Prelude.{◌≡◌, ◌≢◌, ◌⊎◌, ℕ, Bool, false, List, IfSome}
use Rattle.transcripts.specs.RunTexts.{progress_text}
use Rattle.transcripts.specs.declared.run_lines.RunProgress.{RunProgress}
use Rattle.server_runs.specs.Counts.{AreClosed}
use Rattle.server_runs.specs.Paces.{early}
use Rattle.server_runs.specs.declared.counts.Counts.{Counts}
use Rattle.server_runs.specs.declared.kind.Kind.{Kind}
use Rattle.server_runs.specs.declared.kind.Kind.TheVariants.{Opens, Moves}
use Rattle.server_runs.specs.declared.pace.Pace.{Pace}
use Rattle.server_runs.specs.declared.run_record.RunRecord.{RunRecord}
use Rattle.server_runs.specs.declared.watch.Watch as watch

-- ---- pauses

-- the command that was seen last opens a slot, and no slot is open
abbrev pub MayPause : {L : Type 0} → RunRecord L → Type 0
MayPause r = (r.kind ≡ Opens) × AreClosed r.nodes r.counts

-- where that is so the operator decides, and else nothing is given up
abbrev pub Decides : {S L : Type 0} → (asks : S → Bool → S → Type 0) → watch.Watch S L → Bool → watch.Watch S L → Type 0
Decides asks w pauses w' = (MayPause w.run × asks w.run_context pauses w'.run_context)
    ⊎ ((MayPause w.run → ⊥) × (pauses ≡ false))

-- ---- the pace

-- so many milliseconds are waited, if any
abbrev pub WaitsFor : {S : Type 0} → (waits : S → ℕ → S → Type 0) → (millis : ℕ) → S → S → Type 0
WaitsFor waits n s s' = ((n ≡ 0) × (s' ≡ s)) ⊎ ((n ≢ 0) × waits s n s')

-- where so many keys were moved the clock was asked, and it was waited until they are due
abbrev pub KeepsPace : {S : Type 0} → (tells waits : S → ℕ → S → Type 0) → (keys : ℕ) → Pace → Type 0
KeepsPace {S} tells waits keys p = (s : S) × (millis : ℕ) × (mid : S) × (s' : S) × tells s millis mid
    × WaitsFor waits (early p.keys_per_second keys millis) mid s'

abbrev pub Paces : {S : Type 0} → (tells waits : S → ℕ → S → Type 0) → Kind → (keys : ℕ) → Pace → Type 0
Paces tells waits (Moves n) keys p = KeepsPace tells waits keys p
Paces tells waits k keys p = Unit {0}

-- where keys were moved, the pace is kept, if there is one
abbrev pub PassesTime : {S L : Type 0} → (tells waits : S → ℕ → S → Type 0) → watch.Watch S L → Type 0
PassesTime tells waits w = IfSome w.pace (Paces tells waits w.run.kind w.run.counts.keys)

-- ---- the progress

abbrev pub progress_at : (millis moves : ℕ) → Counts → RunProgress
progress_at t m c = record {
  slots = c.handed_over;
  all_slots = m;
  keys = c.keys;
  commands = c.commands;
  millis = t;
}

-- the operator was shown how far the plan is, or there was no memory for that
abbrev pub ShowsAt : {S L : Type 0} → (shows : S → List ℕ → S → Type 0) → (millis : ℕ) → watch.Watch S L
    → watch.Watch S L → Type 0
ShowsAt shows t w w' = (w'.run_context ≡ w.run_context)
    ⊎ shows w.run_context (progress_text (progress_at t w.moves w.run.counts)) w'.run_context

-- the same at the time that the clock tells
abbrev pub ShowsNow : {S L : Type 0} → (tells : S → ℕ → S → Type 0) → (shows : S → List ℕ → S → Type 0)
    → watch.Watch S L → watch.Watch S L → Type 0
ShowsNow {S} tells shows w w' = (millis : ℕ) × (mid : S) × tells w.run_context millis mid
    × ((w'.run_context ≡ mid) ⊎ shows mid (progress_text (progress_at millis w.moves w.run.counts)) w'.run_context)

-- and the line of that was ended
abbrev pub ShowsLast : {S L : Type 0} → (tells : S → ℕ → S → Type 0) → (shows : S → List ℕ → S → Type 0)
    → (closes : S → S → Type 0) → watch.Watch S L → watch.Watch S L → Type 0
ShowsLast {S} {L} tells shows closes w w' =
    (mid : watch.Watch S L) × ShowsNow tells shows w mid × closes mid.run_context w'.run_context
