-- What is written of an answer.
use Rattle.std.specs.Prelude.{◌≡◌, ◌≢◌, ◌≤◌, ◌⊎◌, ℕ, List, codes, take}
use Rattle.byte_streams.specs.Streams.{Output}
use Rattle.transcripts.specs.Writing.{Writes}

-- which answers there may be, each a status and a text
abbrev pub Answers : Type 1
Answers = (status : ℕ) → (text : List ℕ) → Type 0

-- such an answer was written whole
abbrev pub IsWritten : {W : Type 0} → (says : Answers) → Output W → (status : ℕ) → Type 0
IsWritten says o status = (text : List ℕ) × says status text × o.took o.before text o.after

-- a write failed, and only a prefix of such an answer was written; or memory ran out
abbrev pub IsNotWritten : {W : Type 0} → (says : Answers) → Output W → Type 0
IsNotWritten says o =
    ((text : List ℕ) × (status : ℕ) × says status text × ((n : ℕ) × o.took o.before (take n text) o.after)
    × (o.failures o.after ≢ o.failures o.before))
    ⊎ Writes o.took o.failures (codes "out of memory\n") o.before o.after

-- such an answer is written, and its status given; or a write failed or memory ran out, and the status is 1
pub record Tells {W : Type 0} (says : Answers) (o : Output W) (status : ℕ) : Type 0 where
  pub few : status ≤ 1
  pub well : status ≡ 0 → IsWritten says o 0 × (o.failures o.after ≡ o.failures o.before)
  pub badly : status ≡ 1 → IsWritten says o 1 ⊎ IsNotWritten says o
