-- Requests that go to servers, one after the other.
use Rattle.std.specs.Prelude.{◌≡◌, ◌⊎◌, ℕ, List, [], ◌∷◌, Option, None, Some, Result, Ok, Err, slice_get}
use Rattle.cluster_admin.specs.declared.port_fault.PortFault.{PortFault}
use Rattle.server_links.specs.Asking.{AsksAt}
use Rattle.resp2_wire.specs.declared.reply.Reply.{Reply}
use Rattle.server_commands.specs.Spelling.{spelled}
use Rattle.server_links.specs.Links.{Exchanges, ExchangesList, ExchangesText}
use Rattle.server_links.specs.Limits.{IsWithin}
use Rattle.server_links.specs.LongLists.{IsListWithin, list_of}
use Rattle.server_links.specs.LongTexts.{IsTextWithin, reply_of}
use Rattle.server_links.specs.Streams.{Streams}
use Rattle.server_links.specs.declared.link.Link as link
use Rattle.server_links.specs.declared.link_fault.LinkFault.{LinkFault}
use Rattle.server_links.specs.declared.link_fault.LinkFault.TheVariants as link_fault
use Rattle.server_links.specs.declared.list_reply.ListReply.{ListReply}
use Rattle.server_links.specs.declared.text_reply.TextReply.{TextReply}
use Rattle.server_settling.specs.Stops.{stop_by}
use Rattle.server_settling.specs.declared.fault.SettleFault.TheVariants as fault
use Rattle.server_settling.specs.declared.stop.SettleStop.{SettleStop}

-- a reply, or why there is none
abbrev pub Given : Type 0
Given = Result Reply SettleStop

-- a text that is answered, which may be longer than an argument, is a reply
abbrev pub answer_of : Result TextReply SettleStop → Given
answer_of (Ok x) = Ok (reply_of x)
answer_of (Err e) = Err e

-- a list that is answered, which may have more texts than an array has otherwise, is a reply
abbrev pub listing_of : Result ListReply SettleStop → Given
listing_of (Ok x) = Ok (list_of x)
listing_of (Err e) = Err e

-- why the node gives no reply, by what its connection tells
abbrev pub stop_for : (node : ℕ) → Option LinkFault → SettleStop
stop_for n (Some link_fault.NoMemory) = stop_by fault.Memory
stop_for n (Some link_fault.TooLong) = stop_by (fault.TooLong n)
stop_for n (Some link_fault.NoReply) = stop_by (fault.NoReply n)
stop_for n (Some link_fault.Silent) = stop_by (fault.NoAnswer n)
stop_for n None = stop_by (fault.NoAnswer n)

abbrev pub IsGone : {I O : Type 0} → (node : ℕ) → List (link.Link I O) → SettleStop → Type 0
IsGone {I} {O} n links e = (l : link.Link I O) × (slice_get links n ≡ Some l) × (e ≡ stop_for n l.fault)

-- words that go to a node, and how many bytes the reply to them may have
pub record Message : Type 0 where
  pub node : ℕ
  pub words : List (List ℕ)
  pub limit : ℕ

-- The words go over the connection of the node, spelled, and are answered, maybe by a long text or a long list, within
-- the limit. Or the connection is gone. The other connections stay as they are.
unfoldable pub Sends : {I O : Type 0} → Streams I O → Message → List (link.Link I O) → Given → List (link.Link I O)
    → Type 0
Sends by m links (Ok r) links' =
    (AsksAt (Exchanges by (spelled m.words)) links m.node (Ok r) links' × IsWithin m.limit r)
    ⊎ (((x : TextReply) × AsksAt (ExchangesText by (spelled m.words)) links m.node (Ok x) links'
    × IsTextWithin m.limit x × (r ≡ reply_of x))
    ⊎ ((x : ListReply) × AsksAt (ExchangesList by (spelled m.words)) links m.node (Ok x) links'
    × IsListWithin m.limit x × (r ≡ list_of x)))
Sends by m links (Err e) links' =
    ((f : PortFault) × AsksAt (Exchanges by (spelled m.words)) links m.node (Err f) links') × IsGone m.node links' e

-- what comes of words that go to a node: an answer within a limit, and what the connections are then
abbrev pub Asks : Type 0 → Type 1
Asks S = Message → S → Given → S → Type 0

-- first the one, and, where that goes well, then the other, with what the first gave
abbrev pub Then : {S A B : Type 0} → (first : S → Result A SettleStop → S → Type 0)
    → (next : A → S → Result B SettleStop → S → Type 0) → S → Result B SettleStop → S → Type 0
Then {S} {A} first next s r s' = ((a : A) × (mid : S) × first s (Ok a) mid × next a mid r s')
    ⊎ ((e : SettleStop) × first s (Err e) s' × (r ≡ Err e))

-- one for each, up to the first that stops
abbrev pub Each : {S X : Type 0} → (does : X → S → Result (Unit {0}) SettleStop → S → Type 0) → List X → S
    → Result (Unit {0}) SettleStop → S → Type 0
Each does [] s r s' = (r ≡ Ok tt) × (s' ≡ s)
Each does (x ∷ xs) s r s' = Then (does x) (λ u. Each does xs) s r s'

-- a reply is read as `reads` says
abbrev pub ReadBy : {A : Type 0} → (reads : Reply → Result A SettleStop → Type 0) → Given → Result A SettleStop
    → Type 0
ReadBy reads (Ok reply) r = reads reply r
ReadBy reads (Err e) r = r ≡ Err e

module _ {S : Type 0} (asks : Asks S) where
  -- the words go to the node; or there is no memory, and nothing is sent
  abbrev pub IsAsked : Message → S → Given → S → Type 0
  IsAsked m s given s' = asks m s given s' ⊎ ((given ≡ Err (stop_by fault.Memory)) × (s' ≡ s))

  -- the words go to the node, and its reply, which is within the limit, is read as `reads` says
  abbrev pub Tells : {A : Type 0} → (reads : Reply → Result A SettleStop → Type 0) → Message → S
      → Result A SettleStop → S → Type 0
  Tells reads m s r s' = (given : Given) × IsAsked m s given s' × ReadBy reads given r
