use Rattle.std.proofs.Common.{take}
use Rattle.typed_values.specs.Fingerprints.{AreFingerprints}
use Rattle.typed_values.proofs.sorted.fingerprints_of.Given as goal

abbrev pub invariant-loop-text : goal.invariant-loop-text
invariant-loop-text l = AreFingerprints (take l.text-index l.texts) l.fingerprints
