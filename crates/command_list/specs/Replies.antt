-- The replies to COMMAND, COMMAND COUNT, COMMAND INFO and COMMAND DOCS (the pages of these commands).
use Rattle.std.specs.Prelude.{ℕ, pos, List, [], ◌∷◌, map, length, Option, Some, None, codes}
use Rattle.std.specs.List.{flat_map}
use Rattle.resp2_wire.specs.View.{trees}
use Rattle.resp2_wire.specs.declared.reply.Reply.{Reply}
use Rattle.resp2_wire.specs.declared.reply.Reply.TheVariants.{Simple, Number, Bulk, Null, Array}
use Rattle.client_commands.specs.Flags.{flag_text}
use Rattle.client_commands.specs.declared.flag.Flag.{Flag}
use Rattle.command_list.specs.Entries.{Entry}
use Rattle.command_list.specs.Listing.{listed, entry_of}

abbrev pub array_of : List Reply → Reply
array_of replies = Array (trees replies)

abbrev pub flag_line : Flag → Reply
flag_line flag = Simple (flag_text flag)

abbrev pub flags_reply : List Flag → Reply
flags_reply flags = array_of (map flag_line flags)

-- name, number of words, flags, and where the keys are; categories, tips, key specifications and subcommands are empty
abbrev pub entry : Entry → Reply
entry e =
    array_of (
    Bulk e.text ∷ Number e.arity ∷ flags_reply e.flags ∷ Number e.keys.first ∷ Number e.keys.last ∷ Number e.keys.step ∷
    array_of [] ∷ array_of [] ∷ array_of [] ∷ array_of [] ∷ [])

-- COMMAND
unfoldable pub command_reply : Reply
command_reply = array_of (map entry listed)

-- COMMAND COUNT
unfoldable pub count_reply : Reply
count_reply = Number (pos (length listed))

abbrev pub entry_or_null : Option Entry → Reply
entry_or_null None = Null
entry_or_null (Some e) = entry e

-- COMMAND INFO of one name
abbrev pub info_of : List ℕ → Reply
info_of name = entry_or_null (entry_of name)

-- COMMAND INFO: of these names, or of all
unfoldable pub info_reply : List (List ℕ) → Reply
info_reply [] = command_reply
info_reply (name ∷ names) = array_of (map info_of (name ∷ names))

-- what a command does, since when, and its group
abbrev pub page : Entry → Reply
page e =
    array_of (
    Bulk (codes "summary") ∷ Bulk e.page.summary ∷ Bulk (codes "since") ∷ Bulk e.page.since ∷ Bulk (codes "group") ∷
    Bulk e.page.group ∷ [])

abbrev pub page_of : Entry → List Reply
page_of e = Bulk e.text ∷ page e ∷ []

abbrev pub pages_or_none : Option Entry → List Reply
pages_or_none None = []
pages_or_none (Some e) = page_of e

-- COMMAND DOCS of one name: nothing for a name that is unknown
abbrev pub pages_of : List ℕ → List Reply
pages_of name = pages_or_none (entry_of name)

unfoldable pub all_pages : Reply
all_pages = array_of (flat_map page_of listed)

-- COMMAND DOCS: of these names, or of all
unfoldable pub docs_reply : List (List ℕ) → Reply
docs_reply [] = all_pages
docs_reply (name ∷ names) = array_of (flat_map pages_of (name ∷ names))
