-- The options of the command that closes open slots, and what is found for them in the words.
use Rattle.std.specs.Prelude.{◌≡◌, ◌≤◌, ℕ, List, codes, unwrap_or}
use Rattle.clap.specs.Words.{Row, Rule}
use Rattle.command_words.specs.declared.usage.ResumeWords.{ResumeWords}
use Rattle.command_words.specs.Clusters.{AreApplyRows, HasApply, IsApply}
use Rattle.command_words.specs.Options.{MayGive, number_of, parsed_option}
use Rattle.command_words.specs.Planning.{batch_parser}

-- ---- the options

abbrev pub by_option : Rule
by_option = parsed_option (codes "by") batch_parser

-- ---- what the words say

-- at most 10 keys a batch unless another number is given
abbrev pub by_of : List Row → ℕ
by_of rows = unwrap_or (number_of (codes "by") rows) 10

-- a run by the options of `apply`
pub record HasResume (rows : List Row) (g : ResumeWords) : Type 0 where
  pub run : HasApply rows g.run
  pub batch : by_of rows ≡ g.batch

abbrev pub IsResume : ResumeWords → Type 0
IsResume g = IsApply g.run × (1 ≤ g.batch) × (g.batch ≤ 1000)

-- ---- what is found for the options of words that are taken

pub record AreResumeRows (rows : List Row) : Type 0 where
  pub run : AreApplyRows rows
  pub batch : MayGive (codes "by") batch_parser rows
