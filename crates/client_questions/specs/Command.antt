-- COMMAND and its words.
use Rattle.std.specs.Prelude.{cond, [], ◌∷◌, List, ℕ, codes}
use Rattle.resp2_wire.specs.Stream.{Words}
use Rattle.resp2_wire.specs.declared.reply.Reply.{Reply}
use Rattle.command_list.specs.Replies as list
use Rattle.client_questions.specs.Refusals.{is_word, wrong_count, unknown_subcommand}

abbrev pub count_asked : Words → Reply
count_asked [] = list.count_reply
count_asked (w ∷ ws) = wrong_count (codes "command|count")

unfoldable pub command_reply : Words → Reply
command_reply [] = list.command_reply
command_reply (word ∷ ws) =
    cond (is_word word (codes "count")) (count_asked ws)
    (cond (is_word word (codes "info")) (list.info_reply ws)
    (cond (is_word word (codes "docs")) (list.docs_reply ws) (unknown_subcommand (codes "COMMAND") word)))
