-- The reply of a node to a script's request.
use Rattle.std.specs.Prelude.{◌≡◌, ℕ, Bool, true, false, [], ◌∷◌, codes, Result, Ok, Err}
use Rattle.resp2_wire.specs.Stream.{Words}
use Rattle.resp2_wire.specs.declared.reply.Reply.{Reply}
use Rattle.node_session.specs.Requests.{is_word, unknown_command}
use Rattle.node_session.specs.Talk.{Answers, Lent}
use Rattle.script_lines.specs.declared.fault.Halt.{Halt}
use Rattle.script_lines.specs.declared.fault.Halt.TheVariants.{Memory}
use Rattle.cluster_world.specs.Recorded.{Recorded}
use Rattle.cluster_world.specs.RecordedPorts.{IsPut}

-- no request at all, or one of ASKING, which a script puts in the verb of its line
abbrev pub is_unknown : Words → Bool
is_unknown [] = true
is_unknown (word ∷ ws) = is_word word (codes "asking")

-- a recorded world that is asked at a node, before and after, where what it answers is put on its trail
abbrev pub put_at : Recorded → (node : ℕ) → Recorded → Lent Recorded
put_at r node next = record { sends = IsPut; node = node; before = r; after = next }

-- an unknown command leaves all as it is; any other request is answered as in a session
abbrev pub IsReply : (unknown : Bool) → Lent Recorded → (asking : Bool) → Words → Reply → Type 0
IsReply true world asking request reply = (reply ≡ unknown_command) × (world.after ≡ world.before)
IsReply false world asking request reply = Answers world asking request (Ok reply)

-- What the node answers to the request, sent with ASKING or without, and the recorded world then. There is no reply
-- only where memory runs out, which leaves all as it is.
abbrev pub IsReplied : Lent Recorded → (asking : Bool) → Words → Result Reply Halt → Type 0
IsReplied world asking request (Ok reply) = IsReply (is_unknown request) world asking request reply
IsReplied world asking request (Err h) = (h ≡ Memory) × (world.after ≡ world.before)
