-- A frame that the source of a MIGRATE gives (the page of MIGRATE).
use Rattle.std.specs.Prelude.{◌≡◌, ℕ, ◌≤◌, List, [], length, Option, Some, None, Ok}
use Rattle.migrate_frames.specs.Batches.{Entry}
use Rattle.migrate_frames.specs.Frames.{frame}
use Rattle.migrate_frames.specs.Reading.{frame_at}

-- the frame of the batch, as which it is read again
pub record IsFrameOf (es : List Entry) (bytes : List ℕ) : Type 0 where
  pub some : 1 ≤ length es
  pub written : bytes ≡ frame es
  pub read : frame_at bytes ≡ Ok es

-- the frame of the batch, or nothing where nothing is in it
abbrev pub IsExport : List Entry → Option (List ℕ) → Type 0
IsExport es None = es ≡ []
IsExport es (Some bytes) = IsFrameOf es bytes
