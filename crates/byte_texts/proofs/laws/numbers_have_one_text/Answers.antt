use Rattle.byte_texts.proofs.Numerals.{one_text}
use Rattle.byte_texts.proofs.laws.numbers_have_one_text.Goals as goal

pub returns : goal.returns
returns c = one_text
