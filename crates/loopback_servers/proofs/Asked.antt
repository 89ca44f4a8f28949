-- What is told of a question.
use Rattle.std.proofs.Common.{◌≡◌, ℕ, Some, None, Ok, Err, refl, sym, inl, inr}
use Rattle.resp2_wire.specs.Stream.{Words}
use Rattle.resp2_wire.specs.declared.reply.Reply.{Reply}
use Rattle.client_questions.specs.Questions.{reply_own, caller_after}
use Rattle.client_questions.specs.declared.caller.Caller.{Caller}
use Rattle.cluster_world.specs.Ports.{Answer}
use Rattle.cluster_world.specs.Worlds.{World}
use Rattle.cluster_admin.specs.declared.port_fault.PortFault.TheVariants.{Memory}
use Rattle.shared_trail.specs.Reading.{IsToldOf}
use Rattle.loopback_servers.specs.Asking.{IsShown, IsTold, Tells}

-- what the session knows is told
pub tells_own : (opening : World) (node : ℕ) (caller next : Caller) (question : Words) (reply : Reply)
    → Some reply ≡ reply_own caller question → next ≡ caller_after caller question
    → Tells opening node caller question (Ok reply) next
tells_own opening node caller next question reply is after = inr (rw (sym is) refl, after)

-- what the node shows is told
pub tells_shown : (opening : World) (node : ℕ) (caller next : Caller) (question : Words) (answer : Answer)
    → None ≡ reply_own caller question → next ≡ caller_after caller question
    → IsToldOf (IsShown opening.base_port question) opening node answer
    → Tells opening node caller question answer next
tells_shown opening node caller next question answer is after shown = inr (rw (sym is) shown, after)

-- memory ran out
pub tells_nothing : (opening : World) (node : ℕ) (caller next : Caller) (question : Words) → next ≡ caller
    → Tells opening node caller question (Err Memory) next
tells_nothing opening node caller next question same = inl (refl, same)
