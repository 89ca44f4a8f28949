use Rattle.std.proofs.Common.{false, refl}
use Rattle.std.proofs.lemmas.List.{get_or-replicate}
use Rattle.cluster_inspection.proofs.mentioned.marks_of.Goals as goal

pub loop-line-init : goal.loop-line-init
loop-line-init c = (refl, λ n h. get_or-replicate 255 n false false h)
