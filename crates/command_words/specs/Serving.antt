-- The options of the command that serves a cluster, and what is found for them in the words.
use Rattle.std.specs.Prelude.{◌≡◌, List, None, Some, codes, pos, unwrap_or}
use Rattle.clap.specs.Words.{Row, Rule, new_rule}
use Rattle.clap.specs.declared.builder.action.ArgAction.TheVariants.{SetTrue}
use Rattle.clap.specs.declared.builder.value_parser.ValueParser.{ValueParser}
use Rattle.clap.specs.declared.builder.value_parser.ValueParser.TheVariants as vp
use Rattle.command_words.specs.declared.usage.ServeWords.{ServeWords}
use Rattle.command_words.specs.Clusters.{cluster_of, expect_of}
use Rattle.command_words.specs.Options.{AreSizes, MayGive, number_of, parsed_option}
use Rattle.command_words.specs.Planning.{flag_of}
use Rattle.command_words.specs.Starts.{HasEven, survey_of}

-- eight nodes have ports from the highest one on
abbrev pub port_parser : ValueParser
port_parser = vp.Signed (pos 1) (pos 65528)

abbrev pub workers_parser : ValueParser
workers_parser = vp.Signed (pos 1) (pos 32)

abbrev pub connections_parser : ValueParser
connections_parser = vp.Signed (pos 0) (pos 4294967295)

-- ---- the options

abbrev pub base_port_option : Rule
base_port_option = parsed_option (codes "base-port") port_parser

abbrev pub workers_option : Rule
workers_option = parsed_option (codes "workers") workers_parser

abbrev pub connections_option : Rule
connections_option = parsed_option (codes "connections") connections_parser

abbrev pub plan_flag : Rule
plan_flag = record (new_rule (codes "plan")) { long = Some (codes "plan"); action = Some SetTrue }

abbrev pub answers_clients_flag : Rule
answers_clients_flag =
    record (new_rule (codes "answers-clients")) { long = Some (codes "answers-clients"); action = Some SetTrue }

-- ---- what the words say

-- from port 7000 on, by 4 threads, without end, with no plan and no answers of a Redis Cluster, unless something else
-- is given
pub record HasServe (rows : List Row) (g : ServeWords) : Type 0 where
  pub sizes : HasEven rows g.sizes
  pub base_port : g.base_port ≡ unwrap_or (number_of (codes "base-port") rows) 7000
  pub workers : g.workers ≡ unwrap_or (number_of (codes "workers") rows) 4
  pub connections : g.connections ≡ unwrap_or (number_of (codes "connections") rows) 0
  pub plan : g.plan ≡ flag_of (codes "plan") rows
  pub answers_clients : g.answers_clients ≡ flag_of (codes "answers-clients") rows

-- ---- what is found for the options of words that are taken

pub record AreServeRows (rows : List Row) : Type 0 where
  pub sizes : AreSizes rows
  pub no_cluster : cluster_of rows ≡ None
  pub no_expect : expect_of rows ≡ None
  pub no_survey : survey_of rows ≡ None
  pub base_port : MayGive (codes "base-port") port_parser rows
  pub workers : MayGive (codes "workers") workers_parser rows
  pub connections : MayGive (codes "connections") connections_parser rows
  pub plan : MayGive (codes "plan") vp.Bool rows
  pub answers_clients : MayGive (codes "answers-clients") vp.Bool rows
