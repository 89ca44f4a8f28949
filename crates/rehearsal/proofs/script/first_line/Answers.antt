use Rattle.rehearsal.proofs.LineEnds.{cut}
use Rattle.rehearsal.proofs.script.first_line.Goals as goal

pub returns-clause-line : goal.returns-clause-line
returns-clause-line c =
    cut (λ p. (p.0.now, p.1.now)) c.split_once.result c.args.text.now c.split_once.ensures.value
