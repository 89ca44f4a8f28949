-- Laws of frames.
use Rattle.std.specs.Prelude.{◌≡◌, ℕ, ◌<◌, List, Ok}
use Rattle.std.specs.List.{AllByRecursion}
use Rattle.migrate_frames.specs.Batches.{Entry, Fits}
use Rattle.migrate_frames.specs.Frames.{frame}
use Rattle.migrate_frames.specs.Reading.{frame_at}

-- Each batch that has a frame is read from it again.
abbrev pub ReadingInvertsWriting : Type 0
ReadingInvertsWriting = (es : List Entry) → Fits es → frame_at (frame es) ≡ Ok es

abbrev pub AreBytes : List ℕ → Type 0
AreBytes bytes = AllByRecursion (λ b. b < 256) bytes

-- What is read stands so in the bytes, each of them: so a batch has one frame.
abbrev pub WritingIsCanonical : Type 0
WritingIsCanonical = (bytes : List ℕ) (es : List Entry) → AreBytes bytes → frame_at bytes ≡ Ok es
    → (bytes ≡ frame es) × Fits es
