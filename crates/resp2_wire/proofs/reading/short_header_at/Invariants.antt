use Rattle.std.proofs.Common.{◌≡◌, ◌+◌, ◌-◌, ◌<◌, ◌^◌}
use Rattle.resp2_wire.specs.declared.fault.WireFault.{WireFault}
use Rattle.resp2_wire.specs.Reading.{header_at}
use Rattle.resp2_wire.proofs.ShortHeaders.{header_on}
use Rattle.resp2_wire.proofs.reading.short_header_at.Given as goal

abbrev pub invariant-loop : goal.invariant-loop
invariant-loop l = record {
  small : l.number < 10 ^ (l.counter + 1);
  goes_on : (f : WireFault) → header_at f l.bytes ≡ header_on f l.number (20 - l.counter) l.rest;
}
