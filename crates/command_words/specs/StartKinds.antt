-- Which options say who owns the slots where a plan starts.
use Rattle.std.specs.Prelude.{Bool, false, true}
use Rattle.command_words.specs.declared.start_kind.StartKind.{StartKind}
use Rattle.command_words.specs.declared.start_kind.StartKind.TheVariants.{Cluster, Even, Survey}

abbrev pub is_even : StartKind → Bool
is_even Even = true
is_even Cluster = false
is_even Survey = false

abbrev pub is_cluster : StartKind → Bool
is_cluster Even = false
is_cluster Cluster = true
is_cluster Survey = false

abbrev pub is_survey : StartKind → Bool
is_survey Even = false
is_survey Cluster = false
is_survey Survey = true
