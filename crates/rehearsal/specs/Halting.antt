-- A rehearsal that halts: which lines were played before, and why it halts.
use Rattle.std.specs.Prelude.{◌≡◌, ◌≢◌, ◌⊎◌, ℕ, ◌+◌, ◌-◌, ◌^◌, min, List, [], ◌∷◌, ◌++◌, length, Result, Err, IfErr}
use Rattle.std.specs.List.{AllByRecursion}
use Rattle.byte_streams.specs.Streams.{Input, Output}
use Rattle.script_lines.specs.declared.fault.ScriptFault.{ScriptFault}
use Rattle.script_lines.specs.declared.fault.Halt.{Halt}
use Rattle.script_lines.specs.declared.fault.Halt.TheVariants.{Fault, Memory, Failed}
use Rattle.transcripts.specs.declared.transcript.Transcript.{Transcript}
use Rattle.rehearsal.specs.declared.script.Rehearsal.{Rehearsal}
use Rattle.rehearsal.specs.declared.stage.Stage.{Stage}
use Rattle.rehearsal.specs.declared.stage.Stage.TheVariants.{NoClusterYet}
use Rattle.rehearsal.specs.Playing.{Plays, Finishes}
use Rattle.rehearsal.specs.HaltTexts.{IsWrittenAtHalt}
use Rattle.rehearsal.specs.Scripts.{IsOneLine, ended, with_last, PlaysLines, EndsBy, IsSoFar, IsRehearsed, Turn}
use Rattle.rehearsal.specs.Writing.{IsCut, output}

-- nothing, or what stands after the end of a line
abbrev pub IsAfterLine : List ℕ → Type 0
IsAfterLine [] = Unit {0}
IsAfterLine (b ∷ t) = b ≡ 10

-- the next line has this fault
abbrev pub IsFaultOfLine : Stage → List ℕ → ScriptFault → Type 0
IsFaultOfLine stage rest f =
    (line tail : List ℕ) × (rest ≡ line ++ tail) × IsOneLine line × IsAfterLine tail
    × ((old new : Transcript) × Plays stage line old new (Err (Fault f)))

-- a prefix of this text went out
abbrev pub GoesOut : {W : Type 0} → Output W → List ℕ → Type 0
GoesOut writer text = (out rest : List ℕ) × (text ≡ out ++ rest) × writer.took writer.before out writer.after

-- all of this text went out or waits to be written, and nothing else does
abbrev pub GoesOutOrWaits : {W : Type 0} → Output W → List ℕ → Rehearsal → Type 0
GoesOutOrWaits writer text x =
    (out : List ℕ) × (text ≡ out ++ x.waiting.items) × writer.took writer.before out writer.after

-- lines that were played: how many, what they printed, the stage and the status that they left, and what of the input
-- stands after them
pub record Played : Type 0 where
  pub count : ℕ
  pub text : List ℕ
  pub stage : Stage
  pub status : ℕ
  pub rest : List ℕ

-- What a halt after these lines leaves: what they printed, whole, and nothing of the line that halts. At a fault the
-- number is that of the faulty line. Where a read or a write failed, a prefix of the text went out.
abbrev pub Leaves : {W : Type 0} → Output W → Played → Halt → Rehearsal → Type 0
Leaves writer played (Fault f) x =
    IsFaultOfLine played.stage played.rest f × GoesOutOrWaits writer played.text x
    × (x.line ≡ min (1 + played.count) (2 ^ 64 - 1))
Leaves writer played Memory x = GoesOutOrWaits writer played.text x
Leaves writer played Failed x = GoesOut writer played.text

-- a rehearsal of this input halts so: some lines were played before
pub record IsHalted {W : Type 0} (writer : Output W) (input : List ℕ) (h : Halt) (x : Rehearsal) : Type 0 where
  pub lines : List (List ℕ)
  pub rest : List ℕ
  pub text : List ℕ
  pub stage : Stage
  pub status : ℕ
  pub are_lines : AllByRecursion IsOneLine lines
  pub is : input ≡ ended lines ++ rest
  pub played : PlaysLines NoClusterYet 0 lines text stage status
  pub leaves : Leaves writer
      (record { count = length lines; text = text; stage = stage; status = status; rest = rest }) h x

-- ---- what a rehearsal so far comes to

-- it halts in the line that has this end
abbrev pub HaltsAt : {W X : Type 0} → Output W → Turn → Stage → (end : List ℕ) → Result X Halt → Type 0
HaltsAt {W} writer x stage end r =
    (input tail : List ℕ) (first : W)
    → IsSoFar (output writer.took writer.failures first writer.before) input stage x.before
    → IfErr r (λ h. IsHalted (output writer.took writer.failures first writer.after) (input ++ (end ++ 10 ∷ tail)) h
    x.after)

-- it halts in these bytes
abbrev pub HaltsIn : {W X : Type 0} → Output W → Turn → Stage → (bytes : List ℕ) → Result X Halt → Type 0
HaltsIn {W} writer x stage bytes r =
    (input : List ℕ) (first : W)
    → IsSoFar (output writer.took writer.failures first writer.before) input stage x.before
    → IfErr r (λ h. IsHalted (output writer.took writer.failures first writer.after) (input ++ bytes) h x.after)

-- memory ran out, which leaves what waits, or a write failed and only a prefix of what waited went out
abbrev pub IsStopped : {W : Type 0} → Output W → Turn → Halt → Type 0
IsStopped writer x h =
    ((h ≡ Memory) × (writer.after ≡ writer.before) × (x.after.waiting.items ≡ x.before.waiting.items))
    ⊎ IsCut writer x.before.waiting.items h

-- the line's own fault, or memory ran out
abbrev pub MayHalt : Stage → List ℕ → Halt → Type 0
MayHalt stage line (Fault f) = (old new : Transcript) × Plays stage line old new (Err (Fault f))
MayHalt stage line Memory = Unit {0}
MayHalt stage line Failed = ⊥

-- the line halts, and nothing of what it printed waits
abbrev pub IsLineHalted : Stage → List ℕ → Rehearsal → Rehearsal → Halt → Type 0
IsLineHalted stage line x x' h = MayHalt stage line h × (x'.waiting.items ≡ x.waiting.items) × (x'.line ≡ x.line)

-- ---- at the end of a script

-- the end's own fault, or memory ran out
abbrev pub MayEndHalt : Stage → Halt → Type 0
MayEndHalt stage (Fault f) = (old new : Transcript) × Finishes stage old new (Err (Fault f))
MayEndHalt stage Memory = Unit {0}
MayEndHalt stage Failed = ⊥

-- the end halts, and nothing of what it printed waits
abbrev pub IsEndHalted : Stage → Rehearsal → Rehearsal → Halt → Type 0
IsEndHalted stage x x' h = MayEndHalt stage h × (x'.waiting.items ≡ x.waiting.items)

-- the same where all lines were played, and the end is reported
abbrev pub LeavesAtEnd : {W : Type 0} → Output W → Played → Halt → Rehearsal → Type 0
LeavesAtEnd writer played (Fault f) x = MayEndHalt played.stage (Fault f) × GoesOutOrWaits writer played.text x
LeavesAtEnd writer played Memory x = GoesOutOrWaits writer played.text x
LeavesAtEnd writer played Failed x =
    (reported : List ℕ) × (n : ℕ) × EndsBy played.stage played.status reported n
    × GoesOut writer (played.text ++ reported)

-- a rehearsal of this input halts so, as its end is reported
pub record IsHaltedAtEnd {W : Type 0} (writer : Output W) (input : List ℕ) (h : Halt) (x : Rehearsal) : Type 0 where
  pub lines : List (List ℕ)
  pub last : List ℕ
  pub text : List ℕ
  pub stage : Stage
  pub status : ℕ
  pub are_lines : AllByRecursion IsOneLine lines
  pub is_last : IsOneLine last
  pub is : input ≡ ended lines ++ last
  pub played : PlaysLines NoClusterYet 0 (with_last lines last) text stage status
  pub leaves : LeavesAtEnd writer
      (record { count = length (with_last lines last); text = text; stage = stage; status = status; rest = [] }) h x

-- in a line, or as the end is reported
abbrev pub Halted : {W : Type 0} → Output W → List ℕ → Halt → Rehearsal → Type 0
Halted writer input h x = IsHalted writer input h x ⊎ IsHaltedAtEnd writer input h x

abbrev pub EndHalts : {W : Type 0} → Output W → Turn → Stage → Result (Unit {0}) Halt → Type 0
EndHalts {W} writer x stage r =
    (input : List ℕ) (first : W)
    → IsSoFar (output writer.took writer.failures first writer.before) input stage x.before
    → IfErr r (λ h. Halted (output writer.took writer.failures first writer.after) input h x.after)

-- the reader gave this input, in which the rehearsal halts
abbrev pub HaltsBy : {R W : Type 0} → Input R → Output W → Rehearsal → Halt → Type 0
HaltsBy reader writer x h =
    (n : ℕ) × (input : List ℕ) × reader.gave reader.before n input reader.after × Halted writer input h x

-- the reader gave whole lines and the prefix of one more: the lines were played, and all that they print was written
pub record HasWrittenLines {R W : Type 0} (reader : Input R) (writer : Output W) : Type 0 where
  pub reads : ℕ
  pub lines : List (List ℕ)
  pub prefix : List ℕ
  pub text : List ℕ
  pub stage : Stage
  pub status : ℕ
  pub given : reader.gave reader.before reads (ended lines ++ prefix) reader.after
  pub are_lines : AllByRecursion IsOneLine lines
  pub is_prefix : IsOneLine prefix
  pub played : PlaysLines NoClusterYet 0 lines text stage status
  pub written : writer.took writer.before text writer.after

-- a read failed, or a write did, or there were as many reads as there may be
abbrev pub HasFailed : {R W : Type 0} → Input R → Output W → Type 0
HasFailed reader writer =
    (reader.failures reader.after ≢ reader.failures reader.before)
    ⊎ ((writer.failures writer.after ≢ writer.failures writer.before)
    ⊎ ((input : List ℕ) × reader.gave reader.before 9223372036854775807 input reader.after))

-- It halts, and its last words are written, or a prefix of them. It reports of a failure only where there was one.
abbrev pub ReportsHalt : {R W : Type 0} → Input R → Output W → Type 0
ReportsHalt {R} {W} reader writer =
    (h : Halt) × (x : Rehearsal) × (mid : W)
    × HaltsBy reader (output writer.took writer.failures writer.before mid) x h
    × (h ≡ Failed → HasFailed reader (output writer.took writer.failures writer.before mid))
    × ((text : List ℕ) × IsWrittenAtHalt x.waiting.items x.line h text
    × (writer.took mid text writer.after
    ⊎ ((k : Halt) × IsCut (output writer.took writer.failures mid writer.after) text k)))

-- all of it was played, and some plan failed
abbrev pub IsRehearsedBadly : {R W : Type 0} → Input R → Output W → Type 0
IsRehearsedBadly reader writer = (status : ℕ) × (status ≢ 0) × IsRehearsed reader writer status
