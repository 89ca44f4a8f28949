use Rattle.std.proofs.Common.{◌≡◌, ◌-◌, take, drop}
use Rattle.resp2_wire.specs.Reading.{before_cr}
use Rattle.resp2_wire.proofs.Lines.{with_prefix}
use Rattle.resp2_wire.proofs.reading.before_cr.Given as goal

abbrev pub invariant-loop-i : goal.invariant-loop-i
invariant-loop-i l = with_prefix (take l.i l.bytes) (before_cr l.fault (21 - l.i) (drop l.i l.bytes)) ≡ before_cr l.fault 21 l.bytes
