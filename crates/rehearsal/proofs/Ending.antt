-- What a line prints waits after what waited, or is dropped whole; the same of the end.
use Rattle.std.proofs.Common.{◌≡◌, ℕ, ◌+◌, ◌-◌, ◌^◌, ◌==◌, false, min, List, [], ◌∷◌, ◌++◌, length, refl, sym, ap, ◌∙◌, Result, Ok, Err}
use Rattle.std.specs.Prelude.{MatchResult}
use Rattle.std.proofs.lemmas.List.{append-nil}
use Rattle.script_lines.specs.declared.fault.Halt.{Halt}
use Rattle.script_lines.specs.declared.fault.Halt.TheVariants.{Memory}
use Rattle.transcripts.specs.declared.transcript.Transcript.{Transcript}
use Rattle.rehearsal.specs.declared.script.Rehearsal.{Rehearsal}
use Rattle.rehearsal.specs.declared.stage.Stage.{Stage}
use Rattle.rehearsal.specs.Playing.{Plays, Finishes}
use Rattle.rehearsal.specs.Scripts.{IsLinePlayed, IsLastPlayed, IsNextLine, IsEnded}
use Rattle.rehearsal.specs.Halting.{IsLineHalted, IsEndHalted}

pub line_kept : (s s' : Stage) (line : List ℕ) (x y x' : Rehearsal) (old : Transcript) (done : Result (Unit {0}) Halt) (r : Result Stage Halt) → old.printed.items ≡ [] → old.status ≡ x.transcript.status
    → Plays s line old y.transcript (Ok s') → y.waiting.items ≡ x.waiting.items → y.line ≡ x.line
    → MatchResult done (λ _. (x'.waiting.items ≡ y.waiting.items ++ y.transcript.printed.items) × IsNextLine y x') (λ h. (h ≡ Memory) × (x'.waiting.items ≡ y.waiting.items) × (x'.line ≡ y.line))
    → x'.transcript ≡ y.transcript → MatchResult done (λ _. r ≡ Ok s') (λ h. r ≡ Err h) → MatchResult r (IsLinePlayed s line x x') (IsLineHalted s line x x')
line_kept s s' line x y x' old (Ok u) r none status plays waiting number (kept, next) same b =
    let printed = y.transcript.printed.items in
    rw b (
      printed,
      (old, y.transcript, status, none, sym (ap (λ (t : Transcript). t.status) same), refl, plays),
      kept ∙ ap (λ (t : List ℕ). t ++ printed) waiting,
      (next.0, next.1 ∙ ap (λ (n : ℕ). min (n + 1) (2 ^ 64 - 1)) number),
    )
line_kept s s' line x y x' old (Err h) r none status plays waiting number halts same b =
    rw b (rw halts.0 tt, halts.1 ∙ waiting, halts.2 ∙ number)

pub last_kept : (s : Stage) (last : List ℕ) (x x' : Rehearsal) (r : Result Stage Halt) → (length last == 0) ≡ false → MatchResult r (IsLinePlayed s (last ++ []) x x') (IsLineHalted s (last ++ []) x x')
    → MatchResult r (IsLastPlayed s last x x') (IsLineHalted s last x x')
last_kept s [] x x' r some p = absurd cc
last_kept s (b ∷ t) x x' (Ok s') some p = rw append-nil at p
last_kept s (b ∷ t) x x' (Err h) some p = rw append-nil at p

pub end_kept : (s : Stage) (x x' : Rehearsal) (old new : Transcript) (r : Result (Unit {0}) Halt) → old.printed.items ≡ [] → old.status ≡ x.transcript.status → Finishes s old new (Ok tt)
    → MatchResult r (λ _. x'.waiting.items ≡ x.waiting.items ++ new.printed.items) (λ h. (h ≡ Memory) × (x'.waiting.items ≡ x.waiting.items)) → x'.transcript ≡ new
    → MatchResult r (λ _. IsEnded s x x') (IsEndHalted s x x')
end_kept s x x' old new (Ok u) none status finished kept same =
    (new.printed.items, (old, new, status, none, sym (ap (λ (t : Transcript). t.status) same), refl, finished), kept)
end_kept s x x' old new (Err h) none status finished kept same = (rw kept.0 tt, kept.1)
