-- A file with a survey of a clean cluster: its servers, and the owners of all slots.
use Rattle.std.specs.Prelude.{◌≡◌, ◌⊎◌, List, ℕ, Ok, Result, length}
use Rattle.byte_texts.specs.Outcomes.{◌>>=◌}
use Rattle.key_slots.specs.Owners.{Owners}
use Rattle.node_names.specs.Names.{Names}
use Rattle.server_commands.specs.declared.book.Server.{Server}
use Rattle.survey_files.specs.Covering.{IsCovered, IsUncovered}
use Rattle.survey_files.specs.Faults.{IsFaultOf}
use Rattle.survey_files.specs.Numbering.{numbered}
use Rattle.survey_files.specs.Reading.{Told, told_in}
use Rattle.survey_files.specs.declared.file_fault.FileFault.{FileFault}

-- what the text tells, with the servers in the order of the names
abbrev pub told_as : Names → (text : List ℕ) → Result Told FileFault
told_as names text = told_in text >>= numbered names

-- these servers are told, and each slot is listed once, at its owner
abbrev pub IsSurveyIn : Names → (text : List ℕ) → List Server → Owners → Type 0
IsSurveyIn names text b o = (told : Told) × (told_as names text ≡ Ok told) × (b ≡ told.servers)
    × IsCovered told.ranges (length told.servers) o

-- the text is none, or none of such nodes; or a slot is not listed once
abbrev pub IsNoSurvey : Names → (text : List ℕ) → FileFault → Type 0
IsNoSurvey names text e = IsFaultOf (told_as names text) e
    ⊎ ((told : Told) × (told_as names text ≡ Ok told) × IsUncovered told.ranges e)
