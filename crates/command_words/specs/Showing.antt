-- The options of the commands that show what a plan does, and what is found for them in the words.
use Rattle.std.specs.Prelude.{◌≡◌, List, Some, codes, false, true}
use Rattle.clap.specs.Words.{Row, Rule, new_rule}
use Rattle.clap.specs.declared.builder.action.ArgAction.TheVariants.{SetTrue}
use Rattle.clap.specs.declared.builder.value_parser.ValueParser.TheVariants as vp
use Rattle.command_words.specs.declared.usage.ClusterWords.{ClusterWords}
use Rattle.command_words.specs.declared.usage.ExplainWords.{ExplainWords}
use Rattle.command_words.specs.declared.usage.Start.{Start}
use Rattle.command_words.specs.Clusters.{HasCluster}
use Rattle.command_words.specs.Options.{MayGive}
use Rattle.command_words.specs.Planning.{flag_of}
use Rattle.command_words.specs.Starts.{AreStartRows, HasStart}

-- ---- the options

abbrev pub json_flag : Rule
json_flag = record (new_rule (codes "json")) { long = Some (codes "json"); action = Some SetTrue }

abbrev pub now_flag : Rule
now_flag = record (new_rule (codes "now")) { long = Some (codes "now"); action = Some SetTrue }

-- ---- what the words say

-- a page of text, unless JSON is asked for
abbrev pub HasExplain : List Row → ExplainWords → Type 0
HasExplain rows g = HasStart rows g.start × (g.json ≡ flag_of (codes "json") rows)

-- what a plan does
abbrev pub HasDraw : List Row → Start → Type 0
HasDraw rows start = HasStart rows start × (flag_of (codes "now") rows ≡ false)

-- what is there without a plan
abbrev pub HasDrawNow : List Row → ClusterWords → Type 0
HasDrawNow rows g = HasCluster rows g × (flag_of (codes "now") rows ≡ true)

-- ---- what is found for the options of words that are taken

pub record AreExplainRows (rows : List Row) : Type 0 where
  pub start : AreStartRows rows
  pub json : MayGive (codes "json") vp.Bool rows

pub record AreDrawRows (rows : List Row) : Type 0 where
  pub start : AreStartRows rows
  pub now : MayGive (codes "now") vp.Bool rows
