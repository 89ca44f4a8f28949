use Rattle.key_slots.proofs.Longest.{ranges_are_longest}
use Rattle.key_slots.proofs.laws.ranges_are_longest.Goals as goal

pub returns : goal.returns
returns c = ranges_are_longest
