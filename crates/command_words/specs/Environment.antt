-- A cluster that the environment names, in place of `--cluster`.
use Rattle.std.specs.Prelude.{◌||◌, ◌&&◌, ℕ, Bool, List, [], ◌∷◌, codes, false, not, take}
use Rattle.std.specs.List.{list_any}
use Rattle.std.specs.Str.{bytes_eq}
use Rattle.command_words.specs.CommandLine.{Words, is_cluster_word, is_survey_word}

-- the command can ask the servers of a cluster
abbrev pub can_ask : List ℕ → Bool
can_ask command =
    bytes_eq command (codes "survey")
    || (bytes_eq command (codes "apply")
    || (bytes_eq command (codes "resume")
    || (bytes_eq command (codes "forget")
    || (bytes_eq command (codes "verify")
    || (bytes_eq command (codes "explain")
    || (bytes_eq command (codes "draw")
    || (bytes_eq command (codes "plan-reshard")
    || (bytes_eq command (codes "plan-rebalance") || bytes_eq command (codes "plan-drain")))))))))

-- the word says who owns the slots, asks for help, or ends the options
abbrev pub is_size_word : List ℕ → Bool
is_size_word word =
    bytes_eq word (codes "--nodes")
    || (bytes_eq (take 8 word) (codes "--nodes=")
    || (bytes_eq word (codes "--even") || bytes_eq (take 7 word) (codes "--even=")))

abbrev pub ends_options : List ℕ → Bool
ends_options word = bytes_eq word (codes "--help") || (bytes_eq word (codes "-h") || bytes_eq word (codes "--"))

abbrev pub is_start_word : List ℕ → Bool
is_start_word word = is_cluster_word word || (is_survey_word word || (is_size_word word || ends_options word))

abbrev pub has_no_start : Words → Bool
has_no_start words = not (list_any is_start_word words)

-- the words are those of such a command, and none of them is one that says it
abbrev pub takes_cluster : Words → Bool
takes_cluster [] = false
takes_cluster (command ∷ options) = can_ask command && has_no_start options
