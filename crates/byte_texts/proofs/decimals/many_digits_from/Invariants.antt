use Rattle.std.proofs.Common.{◌≡◌, ◌+◌, ◌<◌, ◌^◌, drop}
use Rattle.byte_texts.specs.Decimals.{digits_from}
use Rattle.byte_texts.proofs.decimals.many_digits_from.Given as goal

abbrev pub invariant-loop-digit : goal.invariant-loop-digit
invariant-loop-digit l =
    (l.number < 10 ^ (l.digit-index + 1)) × (digits_from l.number (drop l.digit-index l.text) ≡ digits_from l.first l.text)
