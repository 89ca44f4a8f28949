use Rattle.std.proofs.Common.{false, refl}
use Rattle.std.proofs.lemmas.List.{get_or-replicate}
use Rattle.typed_values.proofs.sorted.fingerprints_of.Goals as goal

pub loop-text-init : goal.loop-text-init
loop-text-init c = (refl, λ n h. get_or-replicate 256 n false false h)
