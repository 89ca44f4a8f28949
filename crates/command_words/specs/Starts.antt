-- The options that say who owns the slots where a plan starts, and what is found for them in the words.
use Rattle.std.specs.Prelude.{◌≡◌, ◌⊎◌, Bool, List, Option, None, Some, codes, false, string_bytes}
use Rattle.clap.specs.Words.{Row, Rule, Text, first_of}
use Rattle.clap.specs.declared.builder.value_parser.ValueParser.TheVariants as vp
use Rattle.command_words.specs.Clusters.{HasCluster, IsAddressed, cluster_of, expect_of, is_sized}
use Rattle.command_words.specs.Options.{HasSizes, IsCluster, IsGiven, MayGive, nodes_parser, text_option}
use Rattle.command_words.specs.declared.sizes.Sizes.{Sizes}
use Rattle.command_words.specs.declared.usage.Start.{Start}
use Rattle.command_words.specs.declared.usage.Start.TheVariants.{Cluster, Even, Survey}

-- `--survey`, which has to be there or need not
abbrev pub survey_option : Bool → Rule
survey_option required = record (text_option (codes "survey")) { required = required }

abbrev pub survey_of : List Row → Option Text
survey_of = first_of (codes "survey")

-- an even split alone
abbrev pub HasEven : List Row → Sizes → Type 0
HasEven rows s = HasSizes rows s × (cluster_of rows ≡ None) × (expect_of rows ≡ None) × (survey_of rows ≡ None)

-- a file alone
abbrev pub HasSurveyFile : List Row → Text → Type 0
HasSurveyFile rows path = (survey_of rows ≡ Some path) × (cluster_of rows ≡ None) × (expect_of rows ≡ None)
    × (is_sized rows ≡ false)

-- one of the three
abbrev pub HasStart : List Row → Start → Type 0
HasStart rows (Even s) = HasEven rows s
HasStart rows (Cluster g) = HasCluster rows g × (survey_of rows ≡ None)
HasStart rows (Survey path) = HasSurveyFile rows (string_bytes path)

abbrev pub IsStart : Start → Type 0
IsStart (Even s) = IsCluster s
IsStart (Cluster g) = IsAddressed g
IsStart (Survey path) = Unit {0}

-- ---- what is found for the options of words that are taken

pub record AreStartRows (rows : List Row) : Type 0 where
  pub even : MayGive (codes "even") nodes_parser rows
  pub nodes : MayGive (codes "nodes") nodes_parser rows
  pub cluster : MayGive (codes "cluster") vp.String rows
  pub survey : MayGive (codes "survey") vp.String rows
  pub there : IsGiven (codes "nodes") rows ⊎ (IsGiven (codes "cluster") rows ⊎ IsGiven (codes "survey") rows)
