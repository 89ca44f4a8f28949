-- The options that give the sizes of a cluster, and what is found for them in the words.
use Rattle.std.specs.Prelude.{◌≡◌, ◌≤◌, ℕ, Bool, List, ◌∷◌, Option, Some, IfSome, IsSome, codes, find}
use Rattle.std.specs.Prelude.{false, option_map, pos, unwrap_or}
use Rattle.std.specs.Str.{bytes_eq}
use Rattle.std.specs.Str.Parse.{digits_value, without_leading_plus}
use Rattle.clap.specs.Words.{Accepts, Row, Rule, Text, new_rule, one_of, reading_of}
use Rattle.clap.specs.declared.builder.value_parser.ValueParser.{ValueParser}
use Rattle.clap.specs.declared.builder.value_parser.ValueParser.TheVariants as vp
use Rattle.command_words.specs.declared.sizes.Sizes.{Sizes}

abbrev pub nodes_parser : ValueParser
nodes_parser = vp.Signed (pos 1) (pos 8)

-- an option that takes a text, and one that takes what its parser accepts
abbrev pub text_option : Text → Rule
text_option name = record (new_rule name) {
  long = Some name;
  value_names = 1;
}

abbrev pub parsed_option : Text → ValueParser → Rule
parsed_option name parser = record (new_rule name) {
  long = Some name;
  parser = Some parser;
  value_names = 1;
}

-- whether a flag is there
abbrev pub flag_of : Text → List Row → Bool
flag_of option rows = unwrap_or (option_map (λ t. bytes_eq t (codes "true")) (one_of option rows)) false

-- an option that takes a number from 1 to 8
abbrev pub node_count : Text → Rule
node_count name = parsed_option name nodes_parser

-- `--nodes`, which has to be there or need not
abbrev pub nodes_option : Bool → Rule
nodes_option required = record (node_count (codes "nodes")) { required = required }

abbrev pub even_option : Rule
even_option = node_count (codes "even")

-- the number that an option gives, where it is there
abbrev pub number_of : Text → List Row → Option ℕ
number_of option rows = option_map (λ t. digits_value 10 (without_leading_plus t)) (one_of option rows)

-- as many nodes as `--nodes` says, and as many owners as `--even` says, or else all nodes
abbrev pub HasSizes : List Row → Sizes → Type 0
HasSizes rows s = (number_of (codes "nodes") rows ≡ Some s.nodes)
    × (unwrap_or (number_of (codes "even") rows) s.nodes ≡ s.owning)

-- a cluster of one to eight nodes, and one of them at least owns slots
abbrev pub IsCluster : Sizes → Type 0
IsCluster s = (1 ≤ s.owning) × (s.owning ≤ s.nodes) × (s.nodes ≤ 8)

-- ---- what is found for an option that is taken

-- a value that the parser accepts, and by which it is read
pub record IsValue (parser : ValueParser) (r : Row) : Type 0 where
  pub value : Text
  pub more : List Text
  pub values : r.values ≡ value ∷ more
  pub accepted : Accepts false parser value
  pub reading : r.reading ≡ reading_of parser

-- where the option is there, it gives such a value
abbrev pub MayGive : Text → ValueParser → List Row → Type 0
MayGive option parser rows = IfSome (find (λ r. bytes_eq r.id option) rows) (IsValue parser)

-- the option is there
abbrev pub IsGiven : Text → List Row → Type 0
IsGiven option rows = IsSome (find (λ r. bytes_eq r.id option) rows)

-- both options give numbers in range, and `--nodes` is there
pub record AreSizes (rows : List Row) : Type 0 where
  pub even : MayGive (codes "even") nodes_parser rows
  pub nodes : MayGive (codes "nodes") nodes_parser rows
  pub there : IsGiven (codes "nodes") rows
