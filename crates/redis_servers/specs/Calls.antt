-- One command of the administrator: what goes over the connections, and what it is answered.
use Rattle.std.specs.Prelude.{◌≡◌, ◌⊎◌, ℕ, Bool, true, false, cond, ◌||◌, ◌==◌, nat_lt, List, codes, length}
use Rattle.std.specs.Prelude.{Option, Some, None, Result, Ok, Err}
use Rattle.cluster_admin.specs.declared.admin.AdminCommand.{AdminCommand}
use Rattle.cluster_admin.specs.declared.admin.AdminCommand.TheVariants.{Importing, KeysIn, Migrating, SetNode, Migrate}
use Rattle.cluster_admin.specs.declared.admin.AdminFault.{AdminFault}
use Rattle.cluster_admin.specs.declared.admin.AdminFault.TheVariants.{SameNode, UnknownNode}
use Rattle.cluster_admin.specs.declared.admin.AdminReply.{AdminReply}
use Rattle.cluster_admin.specs.declared.admin.AdminReply.TheVariants.{Refused}
use Rattle.cluster_admin.specs.declared.admin.AdminReply.TheVariants as admin
use Rattle.cluster_admin.specs.declared.port_fault.PortFault.{PortFault}
use Rattle.cluster_admin.specs.declared.port_fault.PortFault.TheVariants.{Wire}
use Rattle.byte_texts.specs.Words.{begins, is}
use Rattle.resp2_wire.specs.declared.reply.Reply.{Reply}
use Rattle.resp2_wire.specs.declared.reply.Reply.TheVariants as reply
use Rattle.server_commands.specs.Answers.{Says, error_answer}
use Rattle.server_commands.specs.Spelling.{request_of}
use Rattle.server_commands.specs.declared.answers.Answered.{Answered}
use Rattle.server_commands.specs.declared.answers.Answered.TheVariants as told
use Rattle.server_links.specs.Limits.{line_limit, texts_limit}
use Rattle.server_links.specs.Streams.{Question}
use Rattle.redis_servers.specs.RunHistories.{RunHistory, IsEmptied}
use Rattle.redis_servers.specs.Duties.{duties_before, duties_done}
use Rattle.redis_servers.specs.Hearers.{hearers_done}
use Rattle.redis_servers.specs.Meeting.{HearsAll, MeetsAll}
use Rattle.redis_servers.specs.Saying.{KeepsText, SaysUseless}
use Rattle.redis_servers.specs.declared.commanding.Outcome.{Outcome}
use Rattle.redis_servers.specs.declared.port_stop.PortStop.{PortStop}
use Rattle.redis_servers.specs.declared.hearers.Hearer.{Hearer}
use Rattle.redis_servers.specs.declared.setup.PortSetup.{PortSetup}

-- The refusal of a command that is not sent to any of so many servers: it names a node that is none of them, or it is a
-- MIGRATE to the node itself.
abbrev pub unless_there : (nodes m : ℕ) → Option AdminFault → Option AdminFault
unless_there k m o = cond (nat_lt m k) o (Some UnknownNode)

abbrev pub unsent_fault : (nodes node : ℕ) → AdminCommand → Option AdminFault
unsent_fault k n (Importing s m) = unless_there k m None
unsent_fault k n (Migrating s m) = unless_there k m None
unsent_fault k n (SetNode s m) = unless_there k m None
unsent_fault k n (Migrate ks m) = unless_there k m (cond (m == n) (Some SameNode) None)
unsent_fault k n other = None

-- the reply is a refusal, after which the runner of a plan sends nothing more
abbrev pub is_refusal : AdminReply → Bool
is_refusal (Refused f) = true
is_refusal other = false

-- What is answered: a reply for the administrator, or why there is none; and what is kept of the server's text.
abbrev pub Given : Type 0
Given = Result AdminReply PortFault

-- how many bytes the reply to a command may have
abbrev pub limit_of : AdminCommand → ℕ
limit_of (KeysIn s count) = texts_limit count
limit_of other = line_limit

-- ---- what a reply says

-- Whether the text says that the node is a replica, that it became one while it waited for its replicas to do the
-- command, or that these did not (Valkey).
abbrev pub is_excuse : List ℕ → Bool
is_excuse t = is (codes "ERR Please use SETSLOT only with masters.") t
    || (begins (codes "UNBLOCKED ") t || begins (codes "NOREPLICAS ") t)

-- a node that is told that a slot is another's was emptied by this run, or is by that
abbrev pub IsExcused : PortSetup → RunHistory → (node : ℕ) → AdminCommand → Type 0
IsExcused x history n (SetNode slot owner) = ((owner == n) ≡ false) × IsEmptied history x.survey n slot
IsExcused x history n other = ⊥

-- Such an answer counts as done only at a node that was emptied: it follows the node that took its last slot, which has
-- shown that the slot is its own.
abbrev pub ReadsError : (excuse : Bool) → (excused : Type 0) → (node : ℕ) → AdminCommand → List ℕ → Answered → Type 0
ReadsError true excused n c t a = (excused × (a ≡ told.Reply admin.Ok)) ⊎ ((excused → ⊥) × (a ≡ told.Error t))
ReadsError false excused n c t a = a ≡ error_answer n c t

abbrev pub Reads : (excused : Type 0) → (node : ℕ) → AdminCommand → Reply → Answered → Type 0
Reads excused n c (reply.Error t) a = ReadsError (is_excuse t) excused n c t a
Reads excused n c other a = Says n c other a

-- the reply says nothing to the administrator: an error that is none of the refusals, or no reply that the command has
abbrev pub SaysNothing : (excused : Type 0) → (node : ℕ) → AdminCommand → Reply → Type 0
SaysNothing excused n c r =
    ((t : List ℕ) × Reads excused n c r (told.Error t)) ⊎ Reads excused n c r told.Strange

-- What a reply gives: what it says to the administrator, and what is kept of its text. Or it says nothing, and that is
-- told, or there is no memory for it.
abbrev pub IsOutcome : PortSetup → RunHistory → (node : ℕ) → AdminCommand → Reply → Given → Option (List ℕ) → Type 0
IsOutcome x history n c r (Ok reply) said =
    Reads (IsExcused x history n c) n c r (told.Reply reply) × KeepsText x.credentials r said
IsOutcome x history n c r (Err f) said =
    (f ≡ Wire) × SaysUseless (SaysNothing (IsExcused x history n c) n c r) x.credentials n r said

-- ---- what is answered

-- Other servers have heard of what the command changed, and its answer stands. It stands, too, where one has not heard
-- of it when the time is over, and that one is named. Or one of them gives no list, and whether the command was done is
-- not answered.
abbrev pub IsHeard : Outcome → Result (Option (List ℕ)) PortStop → Given → Option (List ℕ) → Type 0
IsHeard o (Ok None) given said = (given ≡ o.given) × (said ≡ o.said)
IsHeard o (Ok (Some text)) given said = (given ≡ o.given) × (said ≡ Some text)
IsHeard o (Err h) given said = (given ≡ Err h.fault) × (said ≡ h.said)

module _ {L : Type 0} (asks : Question → List L →
    (node : ℕ) → Result Reply PortStop → List L → Type 0) where
  -- The command goes to the node, whole, and this is what its reply gives. Or there is no reply, and that is said.
  abbrev pub Commands : PortSetup → RunHistory → (request : List ℕ) → (node : ℕ) → AdminCommand → List L → Given
      → Option (List ℕ) → List L → Type 0
  Commands x history request n c links (Ok reply) said links' = (r : Reply)
      × asks (record { request = request; limit = limit_of c }) links n (Ok r) links'
      × IsOutcome x history n c r (Ok reply) said
  Commands x history request n c links (Err f) said links' =
      asks (record { request = request; limit = limit_of c }) links n (Err (record { fault = f; said = said })) links'
      ⊎ ((r : Reply) × asks (record { request = request; limit = limit_of c }) links n (Ok r) links'
      × IsOutcome x history n c r (Err f) said)

  -- other servers hear of what the command changed
  abbrev pub Spreads : PortSetup → RunHistory → List Hearer → Outcome → List L → Given → Option (List ℕ) → List L → Type 0
  Spreads x history hearers o links given said links' = (heard : Result (Option (List ℕ)) PortStop)
      × HearsAll asks x history hearers links heard links' × IsHeard o heard given said

  -- What servers have to show after the command, by what it was answered: they show it, and then other servers hear of
  -- it; or they do not, and whether the command was done is not answered.
  abbrev pub Confirms : PortSetup → RunHistory → (node : ℕ) → AdminCommand → Outcome → List L → Given → Option (List ℕ)
      → List L → Type 0
  Confirms x history n c o links given said links' =
      ((mid : List L) × MeetsAll asks x history (duties_done history x.survey n c o.given) links (Ok tt) mid
      × Spreads x history (hearers_done x.waits_for_news x.survey n c o.given) o mid given said links')
      ⊎ ((h : PortStop) × MeetsAll asks x history (duties_done history x.survey n c o.given) links (Err h) links'
      × (given ≡ Err h.fault) × (said ≡ h.said))

  -- The command goes to the node once servers show what they have to before it, and its answer stands once they show
  -- what they have to after it. Or they do not show what they have to before it.
  abbrev pub Sends : PortSetup → RunHistory → (node : ℕ) → AdminCommand → List L → Given → Option (List ℕ) → List L → Type 0
  Sends x history n c links given said links' =
      ((mid : List L) × (o : Outcome) × (later : List L)
      × MeetsAll asks x history (duties_before x.waits_for_news history x.survey n c) links (Ok tt) mid
      × Commands x history (request_of x.book x.timeout x.credentials c) n c mid o.given o.said later
      × Confirms x history n c o later given said links')
      ⊎ ((h : PortStop) × MeetsAll asks x history (duties_before x.waits_for_news history x.survey n c) links (Err h) links'
      × (given ≡ Err h.fault) × (said ≡ h.said))

  -- a command that has a refusal is answered by it, with nothing sent, and any other one is sent
  abbrev pub AnswersBy : Option AdminFault → PortSetup → RunHistory → (node : ℕ) → AdminCommand → List L → Given
      → Option (List ℕ) → List L → Type 0
  AnswersBy (Some f) x history n c links given said links' =
      (given ≡ Ok (Refused f)) × (said ≡ None) × (links' ≡ links)
  AnswersBy None x history n c links given said links' = Sends x history n c links given said links'

  abbrev pub Answers : PortSetup → RunHistory → (node : ℕ) → AdminCommand → List L → Given → Option (List ℕ) → List L
      → Type 0
  Answers x history n c links given said links' =
      AnswersBy (unsent_fault (length x.book) n c) x history n c links given said links'
