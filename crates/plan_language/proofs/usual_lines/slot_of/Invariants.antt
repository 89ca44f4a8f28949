use Rattle.std.proofs.Common.{◌≡◌, ◌+◌, ◌++◌, ◌<◌, ◌^◌, drop, decimal}
use Rattle.plan_language.proofs.usual_lines.slot_of.Given as goal

-- what is read of the digits, with the rest of them, is the text
abbrev pub invariant-loop-digit : goal.invariant-loop-digit
invariant-loop-digit l = record {
  some : 0 < l.number;
  small : l.number < 10 ^ (l.digit-index + 1);
  text : decimal l.number ++ drop l.digit-index l.rest ≡ l.digits;
}
