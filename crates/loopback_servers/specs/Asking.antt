-- Sessions that tell of their clients' questions.
use Rattle.std.specs.Prelude.{◌≡◌, ◌⊎◌, ℕ, List, Ok, Err, Option, Some, None, true, false}
use Rattle.byte_streams.specs.Streams.{Input, Output}
use Rattle.client_questions.specs.Questions.{is_question, reply_own, caller_after, reply_by_node}
use Rattle.client_questions.specs.Refusals.{ok}
use Rattle.client_questions.specs.declared.caller.Caller.{Caller}
use Rattle.cluster_node.specs.NodeView.{NodeView}
use Rattle.cluster_world.specs.Ports.{Answer}
use Rattle.cluster_world.specs.Worlds.{World}
use Rattle.cluster_admin.specs.declared.port_fault.PortFault.TheVariants.{Memory}
use Rattle.shared_trail.specs.Reading.{IsToldOf}
use Rattle.node_session.specs.Conversations.{Consulted, Conversation}
use Rattle.node_session.specs.Ends.{AnswersBeforeReading, IsInterrupted, LeavesSo, Served}
use Rattle.node_session.specs.Requests.{is_quit}
use Rattle.node_session.specs.Talk.{Exchange, Lent}
use Rattle.node_session.specs.declared.session_end.SessionEnd.{SessionEnd}
use Rattle.resp2_wire.specs.Stream.{Words}
use Rattle.resp2_wire.specs.declared.reply.Reply.{Reply}

-- what such a node shows of itself; memory is wanted for it
abbrev pub IsShown : (port : ℕ) → Words → NodeView → Answer → Type 0
IsShown port question node (Ok reply) = reply ≡ reply_by_node port node question
IsShown port question node (Err fault) = fault ≡ Memory

-- What is told of a question: what the session knows by itself, or what its node shows when it is read.
abbrev pub IsTold : Option Reply → (opening : World) → (node : ℕ) → Words → Answer → Type 0
IsTold (Some own) opening node question answer = answer ≡ Ok own
IsTold None opening node question answer = IsToldOf (IsShown opening.base_port question) opening node answer

-- the same, with what it makes of the caller; or memory ran out, and nothing changes
abbrev pub Tells : (opening : World) → (node : ℕ) → Caller → Words → Answer → Caller → Type 0
Tells opening node caller question answer next =
    ((answer ≡ Err Memory) × (next ≡ caller))
    ⊎ (IsTold (reply_own caller question) opening node question answer × (next ≡ caller_after caller question))

-- What ends a session when questions are heard is a question: it is told OK, and makes nothing of the caller.
abbrev pub QuitsAreQuestions : Type 0
QuitsAreQuestions = (caller : Caller) (words : Words) → is_quit words ≡ true
    → (is_question words ≡ true) × (reply_own caller words ≡ Some ok) × (caller_after caller words ≡ caller)

-- The session of the connection was served with its node, and its questions were told of. After a QUIT nothing more
-- is read.
abbrev pub IsToldSession : {I O P Q : Type 0} → Input I → Output O → Lent P → Consulted Q → SessionEnd → (sent : ℕ)
    → Type 0
IsToldSession reader writer port questions end sent =
    (reads : ℕ) × (input : List ℕ) × (exchanges : List Exchange) × (out : List ℕ)
    × reader.gave reader.before reads input reader.after
    × Conversation port questions writer
    (record { asking = false; exchanges = exchanges; out = out; sent_before = 0; sent = sent })
    × Served input exchanges out end
    × LeavesSo end exchanges
    × (IsInterrupted end → AnswersBeforeReading reader reads input exchanges out)
