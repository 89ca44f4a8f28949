-- What contracts see of the lines of a plan's text that are not read yet.
use Rattle.std.specs.Prelude.{◌≡◌, ℕ, ◌+◌, ◌≤◌, ◌<◌, true, List, [], ◌++◌, length}
use Rattle.std.specs.Prelude.{Option, None, Some, Result, Ok, Err}
use Rattle.node_names.specs.Names.{Names}
use Rattle.plan_language.specs.declared.line.Line.{Line}
use Rattle.plan_language.specs.declared.parse_fault.ParseFault.{ParseFault}
use Rattle.plan_language.specs.Limits.{limits_of}
use Rattle.plan_language.specs.Lines.{are_listed, line_count, FitsVersion, IsLine, IsVersion, IsWithin}
use Rattle.plan_language.specs.Texts.{ParsedLines, command_in, line_then, lines_in, parts, with_line}

-- the version of the rules, the names that the text lists, the number of the next line, how many commands are counted
-- before it, and what stands between the line feeds from there
pub record LinesLeft : Type 0 where
  pub version : ℕ
  pub names : Option Names
  pub number : ℕ
  pub before : ℕ
  pub lines : List (List ℕ)

-- each line counts as one command at least, but those of the header and of the names
abbrev pub AreLinesLeft : (version number before : ℕ) → Type 0
AreLinesLeft version number before =
    IsVersion version × (2 ≤ number) × (number ≤ before + 257) × (before ≤ 4227072)

abbrev pub read_on : LinesLeft → ParsedLines
read_on l = lines_in l.names l.version l.number l.before l.lines

-- what this text and the lines after it give, if it is a line and not the end
abbrev pub read_past : LinesLeft → List ℕ → ParsedLines
read_past l text =
    line_then (limits_of l.names) l.number l.before (command_in l.names l.version (parts 32 text))
    (λ count. lines_in l.names l.version (l.number + 1) count l.lines)

-- a line was read: what is left, with it in front, is what was left
pub record IsRead (old : LinesLeft) (line : Line) (new : LinesLeft) : Type 0 where
  pub whole : read_on old ≡ with_line line (read_on new)
  pub well_formed : IsLine line
  pub within : IsWithin (limits_of old.names) line
  pub fits : FitsVersion old.version line
  pub listed : are_listed old.names line ≡ true
  pub same_version : new.version ≡ old.version
  pub same_names : new.names ≡ old.names
  pub counted : new.before ≡ old.before + line_count (limits_of old.names) line
  pub room : new.before ≤ (limits_of old.names).commands
  pub less : length new.lines < length old.lines

abbrev pub ReadsLine : LinesLeft → Result (Option Line) ParseFault → LinesLeft → Type 0
ReadsLine old (Ok None) new = read_on old ≡ Ok []
ReadsLine old (Ok (Some line)) new = IsRead old line new
ReadsLine old (Err f) new = read_on old ≡ Err f

-- the fault of what is read
abbrev pub fault_of : ParsedLines → Option ParseFault
fault_of (Ok lines) = None
fault_of (Err f) = Some f

-- the lines read before, and then these
abbrev pub after : List Line → ParsedLines → ParsedLines
after prefix (Ok lines) = Ok (prefix ++ lines)
after prefix (Err f) = Err f
