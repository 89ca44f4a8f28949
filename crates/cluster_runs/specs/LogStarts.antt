-- What becomes of what a log has already.
use Rattle.command_words.specs.declared.usage.LogStart.{LogStart}
use Rattle.command_words.specs.declared.usage.LogStart.TheVariants.{Append, New, Overwrite}
use Rattle.cluster_runs.specs.declared.log_files.Before.{Before}
use Rattle.cluster_runs.specs.declared.log_files.Before.TheVariants.{Cleared, Empty, Kept}

abbrev pub before_apply : LogStart → Before
before_apply New = Empty
before_apply Append = Kept
before_apply Overwrite = Cleared
