-- A rehearsal halts as something failed only where something did: no line fails by itself.
use Rattle.std.proofs.Common.{◌≡◌, ◌≢◌, ℕ, Bool, true, false, List, Result, Ok, Err, inl, inr, sym, ◌∙◌}
use Rattle.std.specs.Prelude.{MatchResult, IfErr}
use Rattle.plan_runner.specs.Advancing.{PortState}
use Rattle.script_lines.specs.declared.fault.Halt.{Halt}
use Rattle.script_lines.specs.declared.fault.Halt.TheVariants.{Fault, Memory, Failed}
use Rattle.transcripts.specs.declared.transcript.Transcript.{Transcript}
use Rattle.rehearsal.specs.declared.script.Rehearsal.{Rehearsal}
use Rattle.rehearsal.specs.declared.stage.Stage.{Stage}
use Rattle.rehearsal.specs.declared.stage.Stage.TheVariants.{NoClusterYet, SeatFree, ReadingPlan, PlanArmed}
use Rattle.rehearsal.specs.SeatFree.{PlaysFree}
use Rattle.rehearsal.specs.Playing.{Plays, Finishes}
use Rattle.cluster_world.specs.Recorded.{Recorded}
use Rattle.rehearsal.specs.PlanReading.{ReadsOn, is_header, ends_plan, with_line}
use Rattle.rehearsal.specs.RecordedSteps.{seated}
use Rattle.rehearsal.specs.Writing.{IsCut, output}
use Rattle.rehearsal.specs.Halting.{IsStopped, MayHalt, MayEndHalt}

no_memory : ◌≡◌ {A = Halt} Failed Memory → ⊥
no_memory e = absurd cc

free_line : (begins : Bool) (at : PortState Recorded) (line : List ℕ) (old new : Transcript) → PlaysFree begins at line old new (Err Failed) → ⊥
free_line true at line old new p = no_memory p
free_line false at line old new p = p

plan_line : (ends : Bool) (at : PortState Recorded) (text : List ℕ) (old new : Transcript) → ReadsOn ends at text old new (Err Failed) → ⊥
plan_line true at text old new p = no_memory p
plan_line false at text old new p = no_memory p

any_line : (s : Stage) (line : List ℕ) (old new : Transcript) → Plays s line old new (Err Failed) → ⊥
any_line NoClusterYet line old new p = p.0
any_line (SeatFree w s) line old new p = free_line (is_header line) (seated w s) line old new p
any_line (ReadingPlan w s t) line old new p = plan_line (ends_plan line) (seated w s) (with_line t.items line) old new p
any_line (PlanArmed w a) line old new p = p

no_end : ◌≡◌ {A = Result (Unit {0}) Halt} (Err Failed) (Ok tt) → ⊥
no_end e = absurd cc

any_end : (s : Stage) (old new : Transcript) → Finishes s old new (Err Failed) → ⊥
any_end NoClusterYet old new p = no_end p.0
any_end (SeatFree w s) old new p = no_end p.0
any_end (ReadingPlan w s t) old new p = no_memory p
any_end (PlanArmed w a) old new p = no_memory p

-- a line that halts does so by its own fault, or as memory ran out
pub may_halt : (s : Stage) (line : List ℕ) (old new : Transcript) (h : Halt) → Plays s line old new (Err h) → MayHalt s line h
may_halt s line old new (Fault f) p = (old, new, p)
may_halt s line old new Memory p = tt
may_halt s line old new Failed p = any_line s line old new p

-- so does the end
pub may_end_halt : (s : Stage) (old new : Transcript) (h : Halt) → Finishes s old new (Err h) → MayEndHalt s h
may_end_halt s old new (Fault f) p = (old, new, p)
may_end_halt s old new Memory p = tt
may_end_halt s old new Failed p = any_end s old new p

pub line_halts : (s : Stage) (line : List ℕ) (h : Halt) → MayHalt s line h → h ≢ Failed
line_halts s line (Fault f) p e = absurd cc
line_halts s line Memory p e = absurd cc
line_halts s line Failed p e = p

pub end_halts : (s : Stage) (h : Halt) → MayEndHalt s h → h ≢ Failed
end_halts s (Fault f) p e = absurd cc
end_halts s Memory p e = absurd cc
end_halts s Failed p e = p

module _ {W : Type 0} (took : W → List ℕ → W → Type 0) (failures : W → ℕ) where
  -- a halt reported beside a stage
  pub cut_beside : (printed : List ℕ) (s : Stage) (w w' : W) (done : Result (Unit {0}) Halt) (r : Result Stage Halt) → IfErr done (IsCut (output took failures w w') printed) → MatchResult done (λ _. r ≡ Ok s) (λ h. r ≡ Err h)
      → IfErr r (λ h. h ≡ Failed → failures w' ≢ failures w)
  cut_beside printed s w w' (Ok u) r c b = rw b tt
  cut_beside printed s w w' (Err h) r c b = rw b (λ e. c.3)

  stopped : (x x' : Rehearsal) (w w' : W) (h : Halt) → IsStopped (output took failures w w') (record { before = x; after = x' }) h → h ≡ Failed → failures w' ≢ failures w
  stopped x x' w w' h (inl m) e = absurd (no_memory (sym e ∙ m.0))
  stopped x x' w w' h (inr c) e = c.3

  pub stopped_beside : (x x' : Rehearsal) (s : Stage) (first w w' : W) (done : Result (Unit {0}) Halt) (r : Result Stage Halt) → failures w ≡ failures first → IfErr done (IsStopped (output took failures w w') (record { before = x; after = x' }))
      → MatchResult done (λ _. r ≡ Ok s) (λ h. r ≡ Err h) → IfErr r (λ h. h ≡ Failed → failures w' ≢ failures first)
  stopped_beside x x' s first w w' (Ok u) r k c b = rw b tt
  stopped_beside x x' s first w w' (Err h) r k c b = rw b (λ e same. stopped x x' w w' h c e (same ∙ sym k))
