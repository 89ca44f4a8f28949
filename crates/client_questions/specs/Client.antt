-- CLIENT SETNAME, CLIENT GETNAME and CLIENT ID (the pages of these commands).
use Rattle.std.specs.Prelude.{ℕ, min, Bool, nat_le, ◌&&◌, cond, List, [], ◌∷◌, pos, codes}
use Rattle.std.specs.List.{list_all}
use Rattle.resp2_wire.specs.Stream.{Words}
use Rattle.resp2_wire.specs.declared.reply.Reply.{Reply}
use Rattle.resp2_wire.specs.declared.reply.Reply.TheVariants.{Error, Number, Bulk, Null}
use Rattle.client_questions.specs.Refusals.{is_word, ok, wrong_count, unknown_subcommand}
use Rattle.client_questions.specs.declared.caller.Caller.{Caller}

-- a byte from `!` to `~`
abbrev pub is_visible : ℕ → Bool
is_visible b = nat_le 33 b && nat_le b 126

abbrev pub is_name : List ℕ → Bool
is_name text = list_all is_visible text

abbrev pub bad_name : Reply
bad_name = Error (codes "ERR Client names cannot contain spaces, newlines or special characters.")

-- the most that a number of a reply can be stands for all above it
abbrev pub told_id : ℕ → Reply
told_id id = Number (pos (min id 9223372036854775807))

-- no name is the empty one
abbrev pub name_reply : List ℕ → Reply
name_reply [] = Null
name_reply (b ∷ text) = Bulk (b ∷ text)

abbrev pub set_name_reply : Words → Reply
set_name_reply [] = wrong_count (codes "client|setname")
set_name_reply (name ∷ []) = cond (is_name name) ok bad_name
set_name_reply (name ∷ a ∷ ws) = wrong_count (codes "client|setname")

abbrev pub name_after : List ℕ → Words → List ℕ
name_after old [] = old
name_after old (name ∷ []) = cond (is_name name) name old
name_after old (name ∷ a ∷ ws) = old

abbrev pub get_name_reply : List ℕ → Words → Reply
get_name_reply name [] = name_reply name
get_name_reply name (w ∷ ws) = wrong_count (codes "client|getname")

abbrev pub id_reply : ℕ → Words → Reply
id_reply id [] = told_id id
id_reply id (w ∷ ws) = wrong_count (codes "client|id")

-- what is asked without a change
abbrev pub told_reply : Caller → List ℕ → Words → Reply
told_reply caller word ws =
    cond (is_word word (codes "getname")) (get_name_reply caller.name ws)
    (cond (is_word word (codes "id")) (id_reply caller.id ws) (unknown_subcommand (codes "CLIENT") word))

unfoldable pub client_reply : Caller → Words → Reply
client_reply caller [] = wrong_count (codes "client")
client_reply caller (word ∷ ws) =
    cond (is_word word (codes "setname")) (set_name_reply ws) (told_reply caller word ws)

unfoldable pub name_after_client : List ℕ → Words → List ℕ
name_after_client old [] = old
name_after_client old (word ∷ ws) = cond (is_word word (codes "setname")) (name_after old ws) old
