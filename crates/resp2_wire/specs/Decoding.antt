-- What decode_reply answers.
use Rattle.std.specs.Prelude.{◌≡◌, ◌≤◌, ℕ, List, length, drop, Option, Some, None, Result, Ok, Err}
use Rattle.byte_texts.specs.Outcomes.{RefusedOrMemory}
use Rattle.resp2_wire.specs.declared.fault.WireFault.{WireFault}
use Rattle.resp2_wire.specs.declared.fault.Stop.TheVariants.{Unfinished, Fault}
use Rattle.resp2_wire.specs.declared.reply.Reply.{Reply}
use Rattle.resp2_wire.specs.declared.limits.TheConstants.{MAX_DEPTH}
use Rattle.resp2_wire.specs.View.{tree}
use Rattle.resp2_wire.specs.Replies.{MayTakeMemory, reply_at, stops_by_memory}

-- The reply and how many bytes it took, nothing where the bytes end too early, or the leftmost fault. Out of memory
-- comes in the place of a fault only where that stands in an array.
abbrev pub Decodes : List ℕ → Result (Option (Reply × ℕ)) WireFault → Type 0
Decodes bytes (Ok (Some x)) = (x.1 ≤ length bytes) × (reply_at MAX_DEPTH bytes ≡ Ok (tree x.0, drop x.1 bytes))
Decodes bytes (Ok None) = reply_at MAX_DEPTH bytes ≡ Err Unfinished
Decodes bytes (Err f) =
    RefusedOrMemory stops_by_memory (MayTakeMemory MAX_DEPTH bytes) (reply_at MAX_DEPTH bytes) (Fault f)
