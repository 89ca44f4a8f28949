-- The texts of a failed read or write, and of an input that was not read.
use Rattle.std.specs.Prelude.{ℕ, List, codes}
use Rattle.byte_streams.specs.declared.reading.Unread.{Unread}
use Rattle.byte_streams.specs.declared.reading.Unread.TheVariants.{Memory, Failed}

abbrev pub failed_text : List ℕ
failed_text = codes "a read or a write failed"

-- why an input was not read
abbrev pub unread_text : Unread → List ℕ
unread_text Memory = codes "out of memory"
unread_text Failed = codes "a read failed"
