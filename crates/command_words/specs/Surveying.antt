-- The options of the command that surveys a cluster of servers, and what is found for them in the words.
use Rattle.std.specs.Prelude.{◌≡◌, List, Some, codes}
use Rattle.clap.specs.Words.{Row, Rule, new_rule}
use Rattle.clap.specs.declared.builder.action.ArgAction.TheVariants.{SetTrue}
use Rattle.clap.specs.declared.builder.value_parser.ValueParser.TheVariants as vp
use Rattle.command_words.specs.declared.usage.SurveyWords.{SurveyWords}
use Rattle.command_words.specs.Clusters.{AreClusterRows, HasCluster}
use Rattle.command_words.specs.Options.{MayGive}
use Rattle.command_words.specs.Planning.{flag_of}

abbrev pub slots_flag : Rule
slots_flag = record (new_rule (codes "slots")) { long = Some (codes "slots"); action = Some SetTrue }

abbrev pub keys_flag : Rule
keys_flag = record (new_rule (codes "keys")) { long = Some (codes "keys"); action = Some SetTrue }

abbrev pub stranded_flag : Rule
stranded_flag = record (new_rule (codes "stranded")) { long = Some (codes "stranded"); action = Some SetTrue }

abbrev pub full_flag : Rule
full_flag = record (new_rule (codes "full")) { long = Some (codes "full"); action = Some SetTrue }

-- All that a plan can start from, the ranges of slots and the numbers of keys are printed, and keys that no client reaches are looked for, each where
-- its flag is there.
pub record HasSurvey (rows : List Row) (g : SurveyWords) : Type 0 where
  pub cluster : HasCluster rows g.cluster
  pub slots : g.slots ≡ flag_of (codes "slots") rows
  pub keys : g.keys ≡ flag_of (codes "keys") rows
  pub stranded : g.stranded ≡ flag_of (codes "stranded") rows
  pub full : g.full ≡ flag_of (codes "full") rows

-- what is found for the options of words that are taken
pub record AreSurveyRows (rows : List Row) : Type 0 where
  pub cluster : AreClusterRows rows
  pub slots : MayGive (codes "slots") vp.Bool rows
  pub keys : MayGive (codes "keys") vp.Bool rows
  pub stranded : MayGive (codes "stranded") vp.Bool rows
  pub full : MayGive (codes "full") vp.Bool rows
