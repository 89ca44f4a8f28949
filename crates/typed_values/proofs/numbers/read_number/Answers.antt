use Rattle.typed_values.proofs.Spellings.{unspelt}
use Rattle.typed_values.proofs.numbers.read_number.Goals as goal

pub returns-clause-none : goal.returns-clause-none
returns-clause-none c = unspelt c.args.text.now c.number_in.result c.number_in.ensures
