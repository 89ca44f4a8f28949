use Rattle.byte_texts.proofs.Parting.{their_parts}
use Rattle.byte_texts.proofs.laws.texts_are_their_parts.Goals as goal

pub returns : goal.returns
returns c = their_parts
