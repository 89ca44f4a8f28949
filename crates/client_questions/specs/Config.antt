-- CONFIG GET of the two settings that clients read: nothing is saved, and nothing is appended to a log.
use Rattle.std.specs.Prelude.{ℕ, cond, List, [], ◌∷◌, ◌++◌, Option, Some, None, codes}
use Rattle.std.specs.List.{find}
use Rattle.resp2_wire.specs.Stream.{Words}
use Rattle.resp2_wire.specs.View.{trees}
use Rattle.resp2_wire.specs.declared.reply.Reply.{Reply}
use Rattle.resp2_wire.specs.declared.reply.Reply.TheVariants.{Bulk, Array}
use Rattle.client_questions.specs.Refusals.{is_word, wrong_count, unknown_subcommand}

abbrev pub setting_of : Option (List ℕ) → List ℕ → List Reply
setting_of None value = []
setting_of (Some word) value = Bulk word ∷ Bulk value ∷ []

-- the first of the words that is this name
abbrev pub first_word : (name : List ℕ) → Words → Option (List ℕ)
first_word name words = find (λ w. is_word w name) words

-- the setting as the first word that names it spells it, with its value
abbrev pub setting : (name value : List ℕ) → Words → List Reply
setting name value words = setting_of (first_word name words) value

unfoldable pub settings : Words → List Reply
settings words = setting (codes "save") [] words ++ setting (codes "appendonly") (codes "no") words

abbrev pub get_reply : Words → Reply
get_reply [] = wrong_count (codes "config|get")
get_reply (name ∷ names) = Array (trees (settings (name ∷ names)))

unfoldable pub config_reply : Words → Reply
config_reply [] = wrong_count (codes "config")
config_reply (word ∷ ws) =
    cond (is_word word (codes "get")) (get_reply ws) (unknown_subcommand (codes "CONFIG") word)
