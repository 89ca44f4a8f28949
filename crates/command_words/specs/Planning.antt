-- The options of the commands that print plans, and what is found for them in the words.
use Rattle.std.specs.Prelude.{◌≡◌, ℕ, Bool, true, false, List, Some, codes, option_map, pos, string_bytes, unwrap_or}
use Rattle.std.specs.Str.{bytes_eq}
use Rattle.clap.specs.Words.{Row, Rule, Text, first_of, new_rule, one_of}
use Rattle.clap.specs.declared.builder.action.ArgAction.TheVariants.{SetTrue}
use Rattle.clap.specs.declared.builder.value_parser.ValueParser.{ValueParser}
use Rattle.clap.specs.declared.builder.value_parser.ValueParser.TheVariants as vp
use Rattle.command_words.specs.declared.usage.DrainWords.{DrainWords}
use Rattle.command_words.specs.declared.usage.RebalanceWords.{RebalanceWords}
use Rattle.command_words.specs.declared.usage.ReshardWords.{ReshardWords}
use Rattle.command_words.specs.Options.{IsGiven, MayGive, number_of, parsed_option, text_option}
pub use Rattle.command_words.specs.Options.{flag_of}
use Rattle.command_words.specs.SlotCounts.{slot_count}
use Rattle.command_words.specs.Starts.{AreStartRows, HasStart}

abbrev pub batch_parser : ValueParser
batch_parser = vp.Signed (pos 1) (pos 1000)

abbrev pub threshold_parser : ValueParser
threshold_parser = vp.Signed (pos 0) (pos 100)

-- ---- the options

abbrev pub from_option : Rule
from_option = record (text_option (codes "from")) { required = true }

abbrev pub to_option : Rule
to_option = record (text_option (codes "to")) { required = true }

-- where all other nodes take slots unless it is given
abbrev pub some_to_option : Rule
some_to_option = text_option (codes "to")

abbrev pub slots_option : Rule
slots_option = record (text_option (codes "slots")) { required = true }

abbrev pub batch_option : Rule
batch_option = parsed_option (codes "batch") batch_parser

abbrev pub weights_option : Rule
weights_option = text_option (codes "weights")

abbrev pub threshold_option : Rule
threshold_option = parsed_option (codes "threshold") threshold_parser

abbrev pub use_empty_flag : Rule
use_empty_flag = record (new_rule (codes "use-empty")) { long = Some (codes "use-empty"); action = Some SetTrue }

-- ---- what the words say

-- at most 10 keys a batch unless another number is given
abbrev pub batch_of : List Row → ℕ
batch_of rows = unwrap_or (number_of (codes "batch") rows) 10

pub record HasReshard (rows : List Row) (g : ReshardWords) : Type 0 where
  pub start : HasStart rows g.start
  pub from_text : first_of (codes "from") rows ≡ Some (string_bytes g.from)
  pub to_text : first_of (codes "to") rows ≡ Some (string_bytes g.to)
  pub count : Text
  pub count_text : first_of (codes "slots") rows ≡ Some count
  pub slots : slot_count count ≡ Some g.slots
  pub batch : batch_of rows ≡ g.batch

pub record HasRebalance (rows : List Row) (g : RebalanceWords) : Type 0 where
  pub start : HasStart rows g.start
  pub weights : first_of (codes "weights") rows ≡ option_map string_bytes g.weights
  pub threshold : unwrap_or (number_of (codes "threshold") rows) 2 ≡ g.threshold
  pub use_empty : flag_of (codes "use-empty") rows ≡ g.use_empty
  pub batch : batch_of rows ≡ g.batch

pub record HasDrain (rows : List Row) (g : DrainWords) : Type 0 where
  pub start : HasStart rows g.start
  pub from_text : first_of (codes "from") rows ≡ Some (string_bytes g.from)
  pub to_text : first_of (codes "to") rows ≡ option_map string_bytes g.to
  pub batch : batch_of rows ≡ g.batch

-- ---- what is found for the options of words that are taken

pub record AreReshardRows (rows : List Row) : Type 0 where
  pub start : AreStartRows rows
  pub from_text : MayGive (codes "from") vp.String rows
  pub from_there : IsGiven (codes "from") rows
  pub to_text : MayGive (codes "to") vp.String rows
  pub to_there : IsGiven (codes "to") rows
  pub slots : MayGive (codes "slots") vp.String rows
  pub slots_there : IsGiven (codes "slots") rows
  pub batch : MayGive (codes "batch") batch_parser rows

pub record AreRebalanceRows (rows : List Row) : Type 0 where
  pub start : AreStartRows rows
  pub threshold : MayGive (codes "threshold") threshold_parser rows
  pub use_empty : MayGive (codes "use-empty") vp.Bool rows
  pub batch : MayGive (codes "batch") batch_parser rows

pub record AreDrainRows (rows : List Row) : Type 0 where
  pub start : AreStartRows rows
  pub from_text : MayGive (codes "from") vp.String rows
  pub from_there : IsGiven (codes "from") rows
  pub batch : MayGive (codes "batch") batch_parser rows
