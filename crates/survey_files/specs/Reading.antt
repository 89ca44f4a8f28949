-- A survey of a clean cluster, line by line.
use Rattle.std.specs.Prelude.{ℕ, ◌+◌, ◌-◌, cond, ◌==◌, nat_lt, List, [], ◌∷◌, ◌++◌, length, Option, None, Some}
use Rattle.std.specs.Prelude.{Result, Ok, Err, codes}
use Rattle.byte_texts.specs.Outcomes.{◌>>=◌}
use Rattle.byte_texts.specs.Parts.{is_nothing, parts}
use Rattle.byte_texts.specs.Words.{is}
use Rattle.key_slots.specs.declared.slot_range.SlotRange.{SlotRange}
use Rattle.server_commands.specs.declared.book.Server.{Server}
use Rattle.survey_files.specs.Lines.{Master, has_id, is_open, is_passed, master_of_words, range_of_parts}
use Rattle.survey_files.specs.Lines.{size_of, slots_in}
use Rattle.survey_files.specs.declared.file_fault.FileFault.{FileFault}
use Rattle.survey_files.specs.declared.reading.Reading.{Reading}
use Rattle.survey_files.specs.declared.file_fault.FileFault.TheVariants.{Line, NoEnd, Open, SameId, TooMany, Unlisted}

-- The servers that the lines told, from n0 on, the ranges of their slots, and how many slots of the last server are
-- still to be listed.
pub record Told : Type 0 where
  pub servers : List Server
  pub ranges : List SlotRange
  pub left : ℕ

abbrev pub nothing_told : Told
nothing_told = record { servers = []; ranges = []; left = 0 }

-- what is kept of them
abbrev pub told_by : Reading → Told
told_by r = record { servers = r.servers.items; ranges = r.ranges.items; left = r.left }

-- the last server's number
abbrev pub last_node : Told → ℕ
last_node told = length told.servers - 1

-- all slots of the last server are listed
abbrev pub if_listed : Told → Result Told FileFault → Result Told FileFault
if_listed told rest = cond (told.left == 0) rest (Err (Unlisted (last_node told)))

-- ---- a range more

-- it is the last server's
abbrev pub with_range : Told → ℕ × ℕ → Told
with_range told p = record told {
  ranges = told.ranges ++ record { first = p.0; last = p.1; owner = last_node told } ∷ [];
  left = told.left - size_of p;
}

abbrev pub range_told : (line : ℕ) → Told → Option (ℕ × ℕ) → Result Told FileFault
range_told line told None = Err (Line line)
range_told line told (Some p) =
    cond (length told.servers == 0) (Err (Line line))
    (cond (nat_lt told.left (size_of p)) (Err (TooMany line)) (Ok (with_range told p)))

-- those of all words
abbrev pub ranges_told : (line : ℕ) → List (List ℕ) → Told → Result Told FileFault
ranges_told line [] told = Ok told
ranges_told line (word ∷ words) told =
    range_told line told (range_of_parts (parts 45 word)) >>= ranges_told line words

-- ---- a master more

abbrev pub with_master : Told → Master → Told
with_master told m = record told { servers = told.servers ++ m.server ∷ []; left = m.slots }

-- it is the next one
abbrev pub master_told : (line : ℕ) → Told → Option Master → Result Told FileFault
master_told line told None = Err (Line line)
master_told line told (Some m) =
    cond (m.node == length told.servers)
    (if_listed told (cond (has_id told.servers m.server.name) (Err (SameId line)) (Ok (with_master told m))))
    (Err (Line line))

-- ---- all lines

abbrev pub other_told : (line : ℕ) → (t : List ℕ) → Told → Result Told FileFault
other_told line t told = cond (is_passed t) (Ok told) (master_told line told (master_of_words (parts 32 t)))

abbrev pub slots_or_other : (line : ℕ) → (t : List ℕ) → (slots : Option (List ℕ)) → Told → Result Told FileFault
slots_or_other line t None told = other_told line t told
slots_or_other line t (Some words) told = ranges_told line (parts 32 words) told

abbrev pub line_told : (line : ℕ) → (t : List ℕ) → Told → Result Told FileFault
line_told line t told = cond (is_open t) (Err Open) (slots_or_other line t (slots_in t) told)

-- nothing stands after the last line
abbrev pub ended : (line : ℕ) → (more : List (List ℕ)) → Told → Result Told FileFault
ended line more told = cond (is_nothing more) (if_listed told (Ok told)) (Err (Line line))

-- The lines from this one on, up to `clean`.
abbrev pub lines_told : (line : ℕ) → List (List ℕ) → Told → Result Told FileFault
lines_told line [] told = Err NoEnd
lines_told line ([] ∷ []) told = Err NoEnd
lines_told line ([] ∷ (next ∷ more)) told = Err (Line line)
lines_told line ((b ∷ t) ∷ more) told =
    cond (is (codes "clean") (b ∷ t)) (ended (line + 1) more told)
    (line_told line (b ∷ t) told >>= lines_told (line + 1) more)

abbrev pub told_in : List ℕ → Result Told FileFault
told_in text = lines_told 1 (parts 10 text) nothing_told
