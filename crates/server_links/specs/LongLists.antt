-- A list of texts, as an array of bulk strings, that may have more of them than an array has otherwise.
use Rattle.std.specs.Prelude.{◌≡◌, ◌≤◌, ℕ, ◌+◌, List, [], ◌∷◌, ◌++◌, Ok, decimal, length}
use Rattle.resp2_wire.specs.Encoding.{encoding, line, spellings}
use Rattle.resp2_wire.specs.Tree.{Trees, array, bulk, none, more}
use Rattle.resp2_wire.specs.View.{tree}
use Rattle.resp2_wire.specs.declared.reply.Reply.{Reply}
use Rattle.resp2_wire.specs.declared.reply.Reply.TheVariants as reply
use Rattle.server_links.specs.Limits.{IsWithin}
use Rattle.server_links.specs.Replies.{first_reply}
use Rattle.server_links.specs.Streams.{Source}
use Rattle.server_links.specs.declared.incoming.lists.Begun.{Begun}
use Rattle.server_links.specs.declared.incoming.lists.Begun.TheVariants as begun
use Rattle.server_links.specs.declared.list_reply.ListReply.{ListReply}
use Rattle.server_links.specs.declared.list_reply.ListReply.TheVariants.{Texts, Other}

-- the texts as bulk strings
abbrev pub bulks : List (List ℕ) → Trees
bulks [] = none
bulks (t ∷ ts) = more (bulk t) (bulks ts)

-- a long list is the reply that an array of bulk strings is
abbrev pub list_of : ListReply → Reply
list_of (Texts ts) = reply.Array (bulks ts)
list_of (Other r) = r

-- the bytes begin with an array of these bulk strings; or with another reply
abbrev pub FindsList : (unread : List ℕ) → ListReply → (unread' : List ℕ) → Type 0
FindsList unread (Texts ts) unread' = unread ≡ encoding (array (bulks ts)) ++ unread'
FindsList unread (Other r) unread' = first_reply unread ≡ Ok (tree r, unread')

-- so they do with what the reader gave meanwhile
abbrev pub GivesList : {I : Type 0} → (gave : I → ℕ → List ℕ → I → Type 0) → Source I → ListReply → Source I → Type 0
GivesList gave s x s' = (n : ℕ) × (input : List ℕ) × gave s.reader n input s'.reader
    × FindsList (s.unread ++ input) x s'.unread

-- how many bytes the texts come in at most: around each stand `$`, its length, and two line ends
abbrev pub list_width : List (List ℕ) → ℕ
list_width [] = 0
list_width (t ∷ ts) = (length t + 12) + list_width ts

-- so many bytes were read as the reply at most
abbrev pub IsListWithin : (limit : ℕ) → ListReply → Type 0
IsListWithin limit (Texts ts) = list_width ts ≤ limit
IsListWithin limit (Other r) = IsWithin limit r

-- ---- the parts of a long list

-- the bytes begin with another reply, or with the line of an array of so many
abbrev pub FindsBegun : (unread : List ℕ) → Begun → (unread' : List ℕ) → Type 0
FindsBegun unread (begun.Whole r) unread' = first_reply unread ≡ Ok (tree r, unread')
FindsBegun unread (begun.Texts count) unread' = unread ≡ line 42 (decimal count) ++ unread'

abbrev pub GivesBegun : {I : Type 0} → (gave : I → ℕ → List ℕ → I → Type 0) → Source I → Begun → Source I → Type 0
GivesBegun gave s b s' = (n : ℕ) × (input : List ℕ) × gave s.reader n input s'.reader
    × FindsBegun (s.unread ++ input) b s'.unread

-- a whole reply is within the limit
abbrev pub IsBegunWithin : (limit : ℕ) → Begun → Type 0
IsBegunWithin limit (begun.Whole r) = IsWithin limit r
IsBegunWithin limit (begun.Texts count) = Unit {0}

-- these bulk strings come, one after the other
abbrev pub GivesTexts : {I : Type 0} → (gave : I → ℕ → List ℕ → I → Type 0) → Source I → List (List ℕ) → Source I
    → Type 0
GivesTexts gave s ts s' = (n : ℕ) × (input : List ℕ) × gave s.reader n input s'.reader
    × (s.unread ++ input ≡ spellings (bulks ts) ++ s'.unread)
