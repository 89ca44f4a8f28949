use Rattle.std.proofs.Common.{◌≡◌, ◌≤◌, ◌-◌, take, drop}
use Rattle.resp2_wire.specs.Replies.{line_at}
use Rattle.resp2_wire.proofs.TextLines.{prefixed_line}
use Rattle.resp2_wire.proofs.decoding.line_at.Given as goal

abbrev pub invariant-loop-i : goal.invariant-loop-i
invariant-loop-i l = (l.i ≤ 1024) × (prefixed_line (take l.i l.bytes) (line_at (1024 - l.i) (drop l.i l.bytes)) ≡ line_at 1024 l.bytes)
