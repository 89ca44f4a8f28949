-- Replies to words that are none of a question's, as Redis 7.0 spells them.
use Rattle.std.specs.Prelude.{ℕ, Bool, ◌==◌, not, cond, List, ◌++◌, map, take, take_while, codes}
use Rattle.std.specs.Str.{str_eq_ignore_ascii_case}
use Rattle.resp2_wire.specs.declared.reply.Reply.{Reply}
use Rattle.resp2_wire.specs.declared.reply.Reply.TheVariants.{Simple, Error}

-- the word is this name, without regard to ASCII case
abbrev pub is_word : List ℕ → List ℕ → Bool
is_word word name = str_eq_ignore_ascii_case word name

abbrev pub ok : Reply
ok = Simple (codes "OK")

abbrev pub wrong_count : List ℕ → Reply
wrong_count name = Error (codes "ERR wrong number of arguments for '" ++ name ++ codes "' command")

abbrev pub not_an_integer : Reply
not_an_integer = Error (codes "ERR value is not an integer or out of range")

-- in a line of text the ends of lines are spaces
abbrev pub in_line : ℕ → ℕ
in_line b = cond (b == 13) 32 (cond (b == 10) 32 b)

-- as much of a word as a refusal shows: at most so many bytes, up to the first zero byte
abbrev pub quoted : (most : ℕ) → List ℕ → List ℕ
quoted most word = map in_line (take_while (λ b. not (b == 0)) (take most word))

unfoldable pub unknown_subcommand : (name word : List ℕ) → Reply
unknown_subcommand name word =
    Error (codes "ERR unknown subcommand '" ++ quoted 128 word ++ codes "'. Try " ++ name ++ codes " HELP.")
