-- What a session sends, answers and tells, where questions are told of beside its port.
use Rattle.std.specs.Prelude.{◌≡◌, ℕ, ◌+◌, Bool, true, false, List, [], ◌∷◌, length, min}
use Rattle.byte_streams.specs.Streams.{Output}
use Rattle.resp2_wire.specs.Stream.{Words}
use Rattle.cluster_world.specs.Ports.{Answer, Chain}
use Rattle.node_session.specs.Talk.{Exchange, Sent, Looked, Unsent, Told, IsExchange, sends_of, most, Lent, Said}

-- of one who tells of questions: which requests are questions, what may be told of one, and how the one who tells was
-- and is left
pub record Consulted (Q : Type 0) : Type 1 where
  pub hears : Words → Bool
  pub tells : Q → Words → Answer → Q → Type 0
  pub before : Q
  pub after : Q

-- A question is told of, and any other request is what it is in a session that hears no question.
abbrev pub IsHeard : (hears : Words → Bool) → Exchange → Type 0
IsHeard hears (Sent r c a) = (hears r ≡ false) × IsExchange (Sent r c a)
IsHeard hears (Looked r a) = (hears r ≡ false) × IsExchange (Looked r a)
IsHeard hears (Unsent r a) = (hears r ≡ false) × IsExchange (Unsent r a)
IsHeard hears (Told r a) = hears r ≡ true

abbrev pub AreHeard : (hears : Words → Bool) → List Exchange → Type 0
AreHeard hears [] = Unit {0}
AreHeard hears (x ∷ xs) = IsHeard hears x × AreHeard hears xs

-- only a question is anything to the one who tells
abbrev pub IsTold : {Q : Type 0} → (Q → Words → Answer → Q → Type 0) → Q → Exchange → Q → Type 0
IsTold tells first (Sent r c a) next = first ≡ next
IsTold tells first (Looked r a) next = first ≡ next
IsTold tells first (Unsent r a) next = first ≡ next
IsTold tells first (Told r a) next = tells first r a next

abbrev pub AreTold : {Q : Type 0} → (Q → Words → Answer → Q → Type 0) → Q → List Exchange → Q → Type 0
AreTold tells first [] last = first ≡ last
AreTold tells first (x ∷ xs) last = (next : _) × IsTold tells first x next × AreTold tells next xs last

-- exchanges that lead from one state of port, teller and writer to another: for a question nothing is sent
pub record Conversation {P Q W : Type 0} (port : Lent P) (questions : Consulted Q) (writer : Output W) (said : Said)
    : Type 0 where
  pub exchanges : AreHeard questions.hears said.exchanges
  pub told : AreTold questions.tells questions.before said.exchanges questions.after
  pub chain : Chain port.sends port.before (sends_of port.node said.asking said.exchanges) port.after
  pub written : writer.took writer.before said.out writer.after
  pub count : said.sent ≡ min (said.sent_before + length said.out) most
