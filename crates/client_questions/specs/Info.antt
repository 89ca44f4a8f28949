-- INFO: its sections Server, Persistence, Replication and Cluster, with what clients read of them.
use Rattle.std.specs.Prelude.{ℕ, Bool, true, ◌||◌, cond, List, [], ◌∷◌, ◌++◌, codes}
use Rattle.std.specs.List.{list_any}
use Rattle.resp2_wire.specs.Stream.{Words}
use Rattle.resp2_wire.specs.declared.reply.Reply.{Reply}
use Rattle.resp2_wire.specs.declared.reply.Reply.TheVariants.{Bulk}
use Rattle.client_questions.specs.Refusals.{is_word}

-- the word asks for the section of this name, or for all
abbrev pub names_section : (name word : List ℕ) → Bool
names_section name word =
    (is_word word name || is_word word (codes "all"))
    || (is_word word (codes "default") || is_word word (codes "everything"))

abbrev pub asks_for : (name : List ℕ) → Words → Bool
asks_for name [] = true
asks_for name (word ∷ ws) = list_any (names_section name) (word ∷ ws)

abbrev pub crlf : List ℕ
crlf = 13 ∷ 10 ∷ []

abbrev pub gap : List ℕ → List ℕ
gap [] = []
gap (b ∷ text) = crlf

-- the sections so far and this one, if it is asked for; a line is empty between two sections
abbrev pub with_section : (name text : List ℕ) → Words → List ℕ → List ℕ
with_section name text words so_far = cond (asks_for name words) (so_far ++ gap so_far ++ text) so_far

abbrev pub server : List ℕ
server = codes "# Server" ++ crlf ++ codes "redis_version:7.0.15" ++ crlf ++ codes "redis_mode:cluster" ++ crlf

abbrev pub persistence : List ℕ
persistence = codes "# Persistence" ++ crlf ++ codes "loading:0" ++ crlf

abbrev pub replication : List ℕ
replication = codes "# Replication" ++ crlf ++ codes "role:master" ++ crlf ++ codes "connected_slaves:0" ++ crlf

abbrev pub cluster : List ℕ
cluster = codes "# Cluster" ++ crlf ++ codes "cluster_enabled:1" ++ crlf

unfoldable pub info_text : Words → List ℕ
info_text words =
    with_section (codes "cluster") cluster words
    (with_section (codes "replication") replication words
    (with_section (codes "persistence") persistence words
    (with_section (codes "server") server words [])))

abbrev pub info_reply : Words → Reply
info_reply words = Bulk (info_text words)
