use Rattle.slot_key_counts.proofs.Small.{batch_small}
use Rattle.slot_key_counts.proofs.laws.batches_are_small.Goals as goal

pub returns : goal.returns
returns c = λ asked round. batch_small asked round 256
