-- What a request asks of a session (the pages of ASKING, PING, QUIT, CLUSTER KEYSLOT and CLUSTER
-- SLOTS).
use Rattle.std.specs.Prelude.{◌≡◌, ℕ, Bool, false, cond, ◌||◌, List, [], ◌∷◌, ◌++◌, map, codes, pos, Err, Ok, ◌⊎◌}
use Rattle.std.specs.Char.{to_ascii_lowercase}
use Rattle.std.specs.Str.{str_eq_ignore_ascii_case}
use Rattle.key_slots.specs.HashSlot.{slot_of}
use Rattle.resp2_wire.specs.Stream.{Words}
use Rattle.resp2_wire.specs.declared.reply.Reply.{Reply}
use Rattle.resp2_wire.specs.declared.reply.Reply.TheVariants.{Simple, Error, Number, Bulk}
use Rattle.client_commands.specs.Commands.{ReadsAs}
use Rattle.client_commands.specs.declared.command.Command.{Command}
use Rattle.client_commands.specs.declared.fault.CommandFault.TheVariants.{Unknown, ArgumentCount}

-- the word is this name, without regard to ASCII case
abbrev pub is_word : List ℕ → List ℕ → Bool
is_word word name = str_eq_ignore_ascii_case word name

-- ---- replies that the session gives itself

abbrev pub ok : Reply
ok = Simple (codes "OK")

abbrev pub unknown_command : Reply
unknown_command = Error (codes "ERR unknown command")

abbrev pub administrators : Reply
administrators = Error (codes "ERR this command belongs to the administrator's seat")

abbrev pub wrong_count : List ℕ → Reply
wrong_count name = Error (codes "ERR wrong number of arguments for '" ++ name ++ codes "' command")

abbrev pub asking_reply : Words → Reply
asking_reply [] = ok
asking_reply (w ∷ ws) = wrong_count (codes "asking")

abbrev pub ping_reply : Words → Reply
ping_reply [] = Simple (codes "PONG")
ping_reply (text ∷ []) = Bulk text
ping_reply (a ∷ b ∷ ws) = wrong_count (codes "ping")

abbrev pub key_slot_reply : Words → Reply
key_slot_reply [] = wrong_count (codes "cluster|keyslot")
key_slot_reply (key ∷ []) = Number (pos (slot_of key))
key_slot_reply (a ∷ b ∷ ws) = wrong_count (codes "cluster|keyslot")

-- ---- who answers a request: the session so, the node by a look, or the node by a command, if the request is one
pub data Asked : Type 0 where
  Here : Reply → Asked
  Slots : Asked
  Stored : Asked

abbrev pub slots_asked : Words → Asked
slots_asked [] = Slots
slots_asked (w ∷ ws) = Here (wrong_count (codes "cluster|slots"))

-- the words of CLUSTER that are the administrator's
abbrev pub is_administrators : List ℕ → Bool
is_administrators word =
    is_word word (codes "setslot") || (is_word word (codes "getkeysinslot") || is_word word (codes "countkeysinslot"))

unfoldable pub cluster_asked : Words → Asked
cluster_asked [] = Here unknown_command
cluster_asked (word ∷ ws) =
    cond (is_word word (codes "keyslot")) (Here (key_slot_reply ws))
    (cond (is_word word (codes "slots")) (slots_asked ws)
    (cond (is_administrators word) (Here administrators) (Here unknown_command)))

unfoldable pub words_ask : Words → Asked
words_ask [] = Stored
words_ask (word ∷ ws) =
    cond (is_word word (codes "asking")) (Here (asking_reply ws))
    (cond (is_word word (codes "ping")) (Here (ping_reply ws))
    (cond (is_word word (codes "cluster")) (cluster_asked ws)
    (cond (is_word word (codes "migrate")) (Here administrators) Stored)))

-- a right ASKING: the next request has ASKING on
abbrev pub is_asking : Words → Bool
is_asking [] = false
is_asking (word ∷ []) = is_word word (codes "asking")
is_asking (word ∷ w ∷ ws) = false

-- the connection is closed after the reply, whatever stands after the word
abbrev pub is_quit : Words → Bool
is_quit [] = false
is_quit (word ∷ ws) = is_word word (codes "quit")

abbrev pub name_of : Words → List ℕ
name_of [] = []
name_of (word ∷ ws) = map to_ascii_lowercase word

-- the reply to a request for the store that is no command: its name is unknown, or its count of arguments is wrong
abbrev pub IsRefused : Words → Reply → Type 0
IsRefused r reply = (ReadsAs r (Err Unknown) × (reply ≡ unknown_command))
    ⊎ (ReadsAs r (Err ArgumentCount) × (reply ≡ wrong_count (name_of r)))

abbrev pub IsHere : Asked → Words → Reply → Type 0
IsHere (Here own) r reply = reply ≡ own
IsHere Slots r reply = ⊥
IsHere Stored r reply = IsRefused r reply

-- the reply is one that no node is asked for
abbrev pub IsOwn : Words → Reply → Type 0
IsOwn r reply = IsHere (words_ask r) r reply

-- the request is this command
abbrev pub IsCommand : Words → Command → Type 0
IsCommand r c = (words_ask r ≡ Stored) × ReadsAs r (Ok c)
