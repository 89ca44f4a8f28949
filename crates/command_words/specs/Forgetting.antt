-- The words of the command by which a cluster forgets a node, and what is found for them.
use Rattle.std.specs.Prelude.{◌≡◌, List, Some, codes, string_bytes, true}
use Rattle.clap.specs.Words.{Row, Rule, first_of, new_rule}
use Rattle.clap.specs.declared.builder.value_parser.ValueParser.TheVariants as vp
use Rattle.command_words.specs.Clusters.{AreClusterRows, HasCluster}
use Rattle.command_words.specs.Options.{IsGiven, MayGive}
use Rattle.command_words.specs.declared.usage.ForgetWords.{ForgetWords}

-- the node, which has no option before it, and has to be there
abbrev pub node_argument : Rule
node_argument = record (new_rule (codes "node")) {
  value_names = 1;
  required = true;
}

pub record HasForget (rows : List Row) (g : ForgetWords) : Type 0 where
  pub node : first_of (codes "node") rows ≡ Some (string_bytes g.node)
  pub cluster : HasCluster rows g.cluster

-- what is found for words that are taken
pub record AreForgetRows (rows : List Row) : Type 0 where
  pub node : MayGive (codes "node") vp.String rows
  pub there : IsGiven (codes "node") rows
  pub cluster : AreClusterRows rows
