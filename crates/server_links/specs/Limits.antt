-- How many bytes a reply may have, by what was asked.
use Rattle.std.specs.Prelude.{ℕ, List, ◌+◌, ◌*◌, ◌≤◌, length}
use Rattle.byte_texts.specs.declared.text.TheConstants.{MAX_BYTES}
use Rattle.resp2_wire.specs.Encoding.{encoding}
use Rattle.resp2_wire.specs.View.{tree}
use Rattle.resp2_wire.specs.declared.reply.Reply.{Reply}

-- a line of any kind: an error, a number or a simple text
abbrev pub line_limit : ℕ
line_limit = 65536

-- An array of so many bulk strings, each with `$1048576`, CR LF, its bytes and CR LF; the array's own line, or an error
-- in its place, is a line.
abbrev pub texts_limit : (count : ℕ) → ℕ
texts_limit count = line_limit + count * (MAX_BYTES + 12)

-- A text that may be longer than an argument, as a list of connections: some 190,000 of them.
abbrev pub list_limit : ℕ
list_limit = 67108864

-- more than memory holds
abbrev pub any_limit : ℕ
any_limit = 18446744073709551615

-- so many bytes were read as the reply
abbrev pub IsWithin : (limit : ℕ) → Reply → Type 0
IsWithin limit r = length (encoding (tree r)) ≤ limit

-- What has come and is not read yet is no longer than the limit and one read, where it was not before: what is longer
-- is refused while it comes.
abbrev pub Holds : (limit : ℕ) → (unread unread' : List ℕ) → Type 0
Holds limit unread unread' = length unread ≤ limit + 65536 → length unread' ≤ limit + 65536
