-- A script that is played line by line: what its lines print, in order, and what of that is written.
use Rattle.std.specs.Prelude.{◌≡◌, ◌≢◌, ℕ, ◌+◌, ◌-◌, ◌^◌, min, Bool, false, nat_eq, List, [], ◌∷◌, ◌++◌, length, codes}
use Rattle.std.specs.Prelude.{decimal, Result, Ok, IfOk, OnOk}
use Rattle.std.specs.List.{list_any, AllByRecursion}
use Rattle.byte_streams.specs.Streams.{Input, Output}
use Rattle.script_lines.specs.Faults.{text_of}
use Rattle.script_lines.specs.declared.fault.Halt.{Halt}
use Rattle.script_lines.specs.declared.fault.Halt.TheVariants.{Fault, Memory, Failed}
use Rattle.rehearsal.specs.Playing.{Plays, Finishes}
use Rattle.rehearsal.specs.Writing.{output}
use Rattle.transcripts.specs.declared.transcript.Transcript.{Transcript}
use Rattle.rehearsal.specs.declared.script.Rehearsal.{Rehearsal}
use Rattle.rehearsal.specs.declared.stage.Stage.{Stage}
use Rattle.rehearsal.specs.declared.stage.Stage.TheVariants.{NoClusterYet}

-- ---- lines

abbrev pub ends_line : ℕ → Bool
ends_line b = nat_eq b 10

abbrev pub IsOneLine : List ℕ → Type 0
IsOneLine t = list_any ends_line t ≡ false

-- each after the other, with its line feed
abbrev pub ended : List (List ℕ) → List ℕ
ended [] = []
ended (l ∷ ls) = l ++ 10 ∷ ended ls

-- ---- what lines print

-- from this stage and status to the next: on a transcript with that status, where nothing was printed
abbrev pub PlaysLine : Stage → ℕ → List ℕ → List ℕ → Stage → ℕ → Type 0
PlaysLine stage status line text stage' status' =
    (old new : Transcript) × (old.status ≡ status) × (old.printed.items ≡ []) × (new.status ≡ status')
    × (new.printed.items ≡ text) × Plays stage line old new (Ok stage')

-- one after the other
abbrev pub PlaysLines : Stage → ℕ → List (List ℕ) → List ℕ → Stage → ℕ → Type 0
PlaysLines stage status [] text stage' status' = (text ≡ []) × (stage' ≡ stage) × (status' ≡ status)
PlaysLines stage status (l ∷ ls) text stage' status' =
    (mid : Stage) × (n : ℕ) × (prefix rest : List ℕ) × PlaysLine stage status l prefix mid n
    × PlaysLines mid n ls rest stage' status' × (text ≡ prefix ++ rest)

-- ---- what waits to be written

-- a rehearsal before a call and after it
pub record Turn : Type 0 where
  pub before : Rehearsal
  pub after : Rehearsal

-- no prefix of the next line was read, and it has the next number
abbrev pub IsNextLine : Rehearsal → Rehearsal → Type 0
IsNextLine x x' = (x'.pending.items ≡ []) × (x'.line ≡ min (x.line + 1) (2 ^ 64 - 1))

-- the line was played, and what it printed waits after what waited
abbrev pub IsLinePlayed : Stage → List ℕ → Rehearsal → Rehearsal → Stage → Type 0
IsLinePlayed stage line x x' next =
    (text : List ℕ) × PlaysLine stage x.transcript.status line text next x'.transcript.status
    × (x'.waiting.items ≡ x.waiting.items ++ text) × IsNextLine x x'

-- all that waits is written
abbrev pub Flushes : {W : Type 0} → Output W → Turn → Type 0
Flushes writer x =
    writer.took writer.before x.before.waiting.items writer.after × (x.after.waiting.items ≡ [])
    × (x.after.transcript.status ≡ x.before.transcript.status) × (x.after.line ≡ x.before.line)

-- the line of a halt, at the line of this number
abbrev pub halt_text : ℕ → Halt → List ℕ
halt_text line (Fault f) = codes "script line " ++ decimal line ++ codes ": " ++ text_of f ++ codes "\n"
halt_text line Memory = codes "out of memory\n"
halt_text line Failed = []

-- ---- a rehearsal that has read this input

-- its lines were played, what they print is written or waits, and what no line feed has ended yet is kept
pub record IsSoFar {W : Type 0} (writer : Output W) (input : List ℕ) (stage : Stage) (x : Rehearsal) : Type 0 where
  pub lines : List (List ℕ)
  pub text : List ℕ
  pub out : List ℕ
  pub are_lines : AllByRecursion IsOneLine lines
  pub is_prefix : IsOneLine x.pending.items
  pub is : input ≡ ended lines ++ x.pending.items
  pub played : PlaysLines NoClusterYet 0 lines text stage x.transcript.status
  pub printed : text ≡ out ++ x.waiting.items
  pub written : writer.took writer.before out writer.after
  pub number : x.line ≡ min (1 + length lines) (2 ^ 64 - 1)

-- what holds of a rehearsal so far, from any first state of the writer, holds with these bytes more
abbrev pub GoesOn : {W : Type 0} → Output W → Turn → Stage → (bytes : List ℕ) → Result Stage Halt → Type 0
GoesOn {W} writer x stage bytes r =
    (input : List ℕ) (first : W)
    → IsSoFar (output writer.took writer.failures first writer.before) input stage x.before
    → IfOk r (λ next. IsSoFar (output writer.took writer.failures first writer.after) (input ++ bytes) next x.after)

-- ---- a rehearsal that was played to its end

-- a last line that no line feed ends, if there is one
abbrev pub with_last : List (List ℕ) → List ℕ → List (List ℕ)
with_last ls [] = ls
with_last ls (b ∷ t) = ls ++ (b ∷ t) ∷ []

-- it was played, if there is one
abbrev pub IsLastPlayed : Stage → List ℕ → Rehearsal → Rehearsal → Stage → Type 0
IsLastPlayed stage [] x x' next = (next ≡ stage) × (x' ≡ x)
IsLastPlayed stage (b ∷ t) x x' next = IsLinePlayed stage (b ∷ t) x x' next

abbrev pub EndsBy : Stage → ℕ → List ℕ → ℕ → Type 0
EndsBy stage status text status' =
    (old new : Transcript) × (old.status ≡ status) × (old.printed.items ≡ []) × (new.status ≡ status')
    × (new.printed.items ≡ text) × Finishes stage old new (Ok tt)

-- the end was reported, and what that printed waits after what waited
abbrev pub IsEnded : Stage → Rehearsal → Rehearsal → Type 0
IsEnded stage x x' =
    (text : List ℕ) × EndsBy stage x.transcript.status text x'.transcript.status
    × (x'.waiting.items ≡ x.waiting.items ++ text)

-- all lines of the input were played, and all that they and the end print went out
pub record IsWhole {W : Type 0} (writer : Output W) (input : List ℕ) (status : ℕ) : Type 0 where
  pub lines : List (List ℕ)
  pub last : List ℕ
  pub text : List ℕ
  pub end_text : List ℕ
  pub stage : Stage
  pub before : ℕ
  pub are_lines : AllByRecursion IsOneLine lines
  pub is_last : IsOneLine last
  pub is : input ≡ ended lines ++ last
  pub played : PlaysLines NoClusterYet 0 (with_last lines last) text stage before
  pub finished : EndsBy stage before end_text status
  pub written : writer.took writer.before (text ++ end_text) writer.after

-- a rehearsal so far ends so
abbrev pub CanEnd : {W : Type 0} → Output W → Turn → Stage → Result (Unit {0}) Halt → Type 0
CanEnd {W} writer x stage r =
    (input : List ℕ) (first : W)
    → IsSoFar (output writer.took writer.failures first writer.before) input stage x.before
    → OnOk r (IsWhole (output writer.took writer.failures first writer.after) input x.after.transcript.status)

-- the reader gave this input up to its end, and all of it was played
abbrev pub IsRehearsed : {R W : Type 0} → Input R → Output W → ℕ → Type 0
IsRehearsed reader writer status =
    (n : ℕ) × (input : List ℕ) × reader.gave reader.before n input reader.after
    × (reader.ends reader.after ≢ reader.ends reader.before) × IsWhole writer input status

-- nothing was read, printed or counted yet
abbrev pub IsFresh : Rehearsal → Type 0
IsFresh x = (x.waiting.items ≡ []) × (x.transcript.status ≡ 0) × (x.pending.items ≡ []) × (x.line ≡ 1)
