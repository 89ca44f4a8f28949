-- A bulk string that may be longer than an argument of a command.
use Rattle.std.specs.Prelude.{◌≡◌, ◌≤◌, ℕ, List, [], ◌++◌, Ok, length}
use Rattle.resp2_wire.specs.Encoding.{encoding}
use Rattle.resp2_wire.specs.Tree.{bulk}
use Rattle.resp2_wire.specs.View.{tree}
use Rattle.resp2_wire.specs.declared.reply.Reply.{Reply}
use Rattle.resp2_wire.specs.declared.reply.Reply.TheVariants as reply
use Rattle.server_links.specs.Limits.{IsWithin}
use Rattle.server_links.specs.Replies.{first_reply}
use Rattle.server_links.specs.Streams.{Source}
use Rattle.server_links.specs.declared.text_reply.TextReply.{TextReply}
use Rattle.server_links.specs.declared.text_reply.TextReply.TheVariants.{Text, Other}

-- a long text is the reply that a bulk string is
abbrev pub reply_of : TextReply → Reply
reply_of (Text v) = reply.Bulk v.items
reply_of (Other r) = r

-- the bytes are a bulk string of this text, and nothing else; or they begin with another reply
abbrev pub FindsText : (unread : List ℕ) → TextReply → (unread' : List ℕ) → Type 0
FindsText unread (Text v) unread' = (unread ≡ encoding (bulk v.items)) × (unread' ≡ [])
FindsText unread (Other r) unread' = first_reply unread ≡ Ok (tree r, unread')

-- so they are with what the reader gave meanwhile
abbrev pub GivesText : {I : Type 0} → (gave : I → ℕ → List ℕ → I → Type 0) → Source I → TextReply → Source I → Type 0
GivesText gave s x s' = (n : ℕ) × (input : List ℕ) × gave s.reader n input s'.reader
    × FindsText (s.unread ++ input) x s'.unread

-- so many bytes were read as the reply
abbrev pub IsTextWithin : (limit : ℕ) → TextReply → Type 0
IsTextWithin limit (Text v) = length (encoding (bulk v.items)) ≤ limit
IsTextWithin limit (Other r) = IsWithin limit r
