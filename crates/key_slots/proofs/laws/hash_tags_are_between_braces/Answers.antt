use Rattle.key_slots.proofs.Tags.{tags_are_between_braces}
use Rattle.key_slots.proofs.laws.hash_tags_are_between_braces.Goals as goal

pub returns : goal.returns
returns c = tags_are_between_braces
