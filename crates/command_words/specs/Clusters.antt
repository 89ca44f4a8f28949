-- The options of the commands that ask the servers of a cluster, and what is found for them in the words.
use Rattle.std.specs.Prelude.{◌≡◌, ◌≤◌, ◌||◌, ◌&&◌, Bool, List, Option, Some, IfSome, IsSome, codes, cond, false, is_some}
use Rattle.std.specs.Prelude.{length, true}
use Rattle.std.specs.Prelude.{option_map, pos, string_bytes, unwrap_or}
use Rattle.std.specs.List.{All}
use Rattle.std.specs.Net.Socket.{v4_port}
use Rattle.clap.specs.Words.{Row, Rule, Text, first_of, new_rule}
use Rattle.clap.specs.declared.builder.action.ArgAction.TheVariants.{SetTrue}
use Rattle.clap.specs.declared.builder.value_parser.ValueParser.{ValueParser}
use Rattle.clap.specs.declared.builder.value_parser.ValueParser.TheVariants as vp
use Rattle.command_words.specs.declared.usage.ApplyWords.{ApplyWords}
use Rattle.command_words.specs.declared.usage.ClusterWords.{ClusterWords}
use Rattle.command_words.specs.declared.usage.LogStart.{LogStart}
use Rattle.command_words.specs.declared.usage.LogStart.TheVariants.{Append, New, Overwrite}
use Rattle.command_words.specs.Addresses.{AreAddresses}
use Rattle.command_words.specs.Ids.{are_ids_if_given}
use Rattle.command_words.specs.Options.{IsGiven, MayGive, flag_of, number_of, parsed_option, text_option}

abbrev pub timeout_parser : ValueParser
timeout_parser = vp.Signed (pos 1) (pos 600000)

abbrev pub keys_parser : ValueParser
keys_parser = vp.Signed (pos 1) (pos 1000000000)

-- ---- the options

-- `--cluster`, which has to be there or need not
abbrev pub cluster_option : Bool → Rule
cluster_option required = record (text_option (codes "cluster")) { required = required }

abbrev pub expect_option : Rule
expect_option = text_option (codes "expect")

abbrev pub timeout_option : Rule
timeout_option = parsed_option (codes "timeout") timeout_parser

abbrev pub keys_option : Rule
keys_option = parsed_option (codes "keys-per-second") keys_parser

abbrev pub log_option : Rule
log_option = text_option (codes "log")

abbrev pub append_flag : Rule
append_flag = record (new_rule (codes "append")) { long = Some (codes "append"); action = Some SetTrue }

abbrev pub overwrite_flag : Rule
overwrite_flag = record (new_rule (codes "overwrite")) { long = Some (codes "overwrite"); action = Some SetTrue }

abbrev pub stop_file_option : Rule
stop_file_option = text_option (codes "stop-file")

abbrev pub wait_for_news_flag : Rule
wait_for_news_flag =
    record (new_rule (codes "wait-for-news")) { long = Some (codes "wait-for-news"); action = Some SetTrue }

abbrev pub dead_for_good_option : Rule
dead_for_good_option = text_option (codes "dead-for-good")

-- a path, where the option of `serve` of that name is a flag
abbrev pub plan_option : Rule
plan_option = text_option (codes "plan")

-- ---- what the words say

abbrev pub cluster_of : List Row → Option Text
cluster_of = first_of (codes "cluster")

abbrev pub expect_of : List Row → Option Text
expect_of = first_of (codes "expect")

-- one of the options is there that give the sizes of a cluster
abbrev pub is_sized : List Row → Bool
is_sized rows = is_some (number_of (codes "nodes") rows) || is_some (number_of (codes "even") rows)

-- a cluster of servers alone
pub record HasCluster (rows : List Row) (g : ClusterWords) : Type 0 where
  pub alone : is_sized rows ≡ false
  pub text : Text
  pub given : cluster_of rows ≡ Some text
  pub addresses : AreAddresses text g.addresses.items
  pub expect : expect_of rows ≡ option_map string_bytes g.expect

-- how the log begins
abbrev pub log_start_of : List Row → LogStart
log_start_of rows =
    cond (flag_of (codes "append") rows) Append (cond (flag_of (codes "overwrite") rows) Overwrite New)

-- a log is given where it is said how it begins, and that is said once
pub record IsLogged (rows : List Row) : Type 0 where
  pub once : (flag_of (codes "append") rows && flag_of (codes "overwrite") rows) ≡ false
  pub there : (flag_of (codes "append") rows || flag_of (codes "overwrite") rows) ≡ true
      → IsSome (first_of (codes "log") rows)

-- a minute for a MIGRATE, unless something else is given
pub record HasApply (rows : List Row) (g : ApplyWords) : Type 0 where
  pub cluster : HasCluster rows g.cluster
  pub timeout : g.timeout ≡ unwrap_or (number_of (codes "timeout") rows) 60000
  pub keys : g.keys_per_second ≡ number_of (codes "keys-per-second") rows
  pub log : first_of (codes "log") rows ≡ option_map string_bytes g.log
  pub log_start : g.log_start ≡ log_start_of rows
  pub logged : IsLogged rows
  pub stop_file : first_of (codes "stop-file") rows ≡ option_map string_bytes g.stop_file
  pub wait_for_news : g.wait_for_news ≡ flag_of (codes "wait-for-news") rows
  pub dead_for_good : first_of (codes "dead-for-good") rows ≡ option_map string_bytes g.dead_for_good
  pub ids : are_ids_if_given (first_of (codes "dead-for-good") rows) ≡ true
  pub plan : first_of (codes "plan") rows ≡ option_map string_bytes g.plan

-- one to eight addresses, of which no port is 0
abbrev pub IsAddressed : ClusterWords → Type 0
IsAddressed g = (1 ≤ length g.addresses.items) × (length g.addresses.items ≤ 8)
    × All (λ address. 1 ≤ v4_port address) g.addresses.items

-- ten minutes at most, and a thousand million keys
abbrev pub IsApply : ApplyWords → Type 0
IsApply g = IsAddressed g.cluster × (1 ≤ g.timeout) × (g.timeout ≤ 600000)
    × IfSome g.keys_per_second (λ n. (1 ≤ n) × (n ≤ 1000000000))

-- ---- what is found for the options of words that are taken

pub record AreClusterRows (rows : List Row) : Type 0 where
  pub text : MayGive (codes "cluster") vp.String rows
  pub there : IsGiven (codes "cluster") rows
  pub sizes : is_sized rows ≡ false

pub record AreApplyRows (rows : List Row) : Type 0 where
  pub cluster : AreClusterRows rows
  pub timeout : MayGive (codes "timeout") timeout_parser rows
  pub keys : MayGive (codes "keys-per-second") keys_parser rows
  pub append : MayGive (codes "append") vp.Bool rows
  pub overwrite : MayGive (codes "overwrite") vp.Bool rows
  pub wait_for_news : MayGive (codes "wait-for-news") vp.Bool rows
