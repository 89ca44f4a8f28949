-- What a session sends and answers.
use Rattle.std.specs.Prelude.{◌≡◌, ℕ, ◌+◌, ◌^◌, ◌-◌, Bool, List, [], ◌∷◌, ◌++◌, length, Ok, Err, min}
use Rattle.byte_streams.specs.Streams.{Output}
use Rattle.resp2_wire.specs.Stream.{Words}
use Rattle.client_commands.specs.declared.command.Command.{Command}
use Rattle.cluster_world.specs.Ports.{Send, Answer, Execute, Look, Chain}
use Rattle.cluster_admin.specs.declared.port_fault.PortFault.TheVariants.{Memory, Io, Wire}
use Rattle.node_session.specs.Memory.{MayRunOut}
use Rattle.node_session.specs.Requests.{words_ask, Slots, IsOwn, IsCommand, is_asking}
use Rattle.node_session.specs.SessionBytes.{answer_text}

-- a request with its answer: the node's to a command, the node's to CLUSTER SLOTS, one for which nothing was sent, or
-- what was told of a question
pub data Exchange : Type 0 where
  Sent : Words → Command → Answer → Exchange
  Looked : Words → Answer → Exchange
  Unsent : Words → Answer → Exchange
  Told : Words → Answer → Exchange

abbrev pub request_of : Exchange → Words
request_of (Sent r c a) = r
request_of (Looked r a) = r
request_of (Unsent r a) = r
request_of (Told r a) = r

abbrev pub answer_of : Exchange → Answer
answer_of (Sent r c a) = a
answer_of (Looked r a) = a
answer_of (Unsent r a) = a
answer_of (Told r a) = a

-- Commands with a right count of arguments and CLUSTER SLOTS are sent. Any other request has the session's own reply,
-- and so has none of those a reply that were not sent: memory ran out before, where it was wanted. There are no
-- questions.
abbrev pub IsExchange : Exchange → Type 0
IsExchange (Sent r c a) = IsCommand r c
IsExchange (Looked r a) = words_ask r ≡ Slots
IsExchange (Unsent r (Ok reply)) = IsOwn r reply
IsExchange (Unsent r (Err Memory)) = MayRunOut r
IsExchange (Unsent r (Err Io)) = ⊥
IsExchange (Unsent r (Err Wire)) = ⊥
IsExchange (Told r a) = ⊥

abbrev pub AreExchanges : List Exchange → Type 0
AreExchanges [] = Unit {0}
AreExchanges (x ∷ xs) = IsExchange x × AreExchanges xs

-- what one exchange sends to the node, where `before` says whether the request before it is a right ASKING
abbrev pub sent_of : ℕ → Bool → Exchange → List Send
sent_of node before (Sent r c a) = record { call = Execute node before c; answer = a } ∷ []
sent_of node before (Looked r a) = record { call = Look node; answer = a } ∷ []
sent_of node before (Unsent r a) = []
sent_of node before (Told r a) = []

abbrev pub sends_of : ℕ → Bool → List Exchange → List Send
sends_of node before [] = []
sends_of node before (x ∷ xs) = sent_of node before x ++ sends_of node (is_asking (request_of x)) xs

-- whether the last request is a right ASKING, where `before` says it of the one before these
abbrev pub asks : Bool → List Exchange → Bool
asks before [] = before
asks before (x ∷ xs) = asks (is_asking (request_of x)) xs

-- the bytes of all answers, in order
abbrev pub texts : List Exchange → List ℕ
texts [] = []
texts (x ∷ xs) = answer_text (answer_of x) ++ texts xs

-- the number of bytes that is reported at most
abbrev pub most : ℕ
most = 2 ^ 64 - 1

-- of a port that was lent: what a send by it does, the node that is asked, and how the port was and is left
pub record Lent (P : Type 0) : Type 1 where
  pub sends : P → Send → P → Type 0
  pub node : ℕ
  pub before : P
  pub after : P

-- what was said: whether the request before is a right ASKING, the requests with their answers, what went out, and the
-- number of bytes that was reported before it and is now
pub record Said : Type 0 where
  pub asking : Bool
  pub exchanges : List Exchange
  pub out : List ℕ
  pub sent_before : ℕ
  pub sent : ℕ

-- exchanges that lead from one state of port and writer to another
pub record Talk {P W : Type 0} (port : Lent P) (writer : Output W) (said : Said) : Type 0 where
  pub exchanges : AreExchanges said.exchanges
  pub chain : Chain port.sends port.before (sends_of port.node said.asking said.exchanges) port.after
  pub written : writer.took writer.before said.out writer.after
  pub count : said.sent ≡ min (said.sent_before + length said.out) most

-- one request, its answer, and what was sent for it
abbrev pub Answers : {P : Type 0} → Lent P → (asking : Bool) → Words → Answer → Type 0
Answers port asking request answer =
    (x : Exchange) × (request_of x ≡ request) × (answer_of x ≡ answer) × IsExchange x
    × Chain port.sends port.before (sent_of port.node asking x) port.after
