use Rattle.std.proofs.Common.{sym}
use Rattle.survey_files.proofs.reading.Reading.put_named.Goals as goal

pub returns-then-has_node : goal.returns-then-has_node
returns-then-has_node c =
    let found = sym c.in-Some.ensures.value in
    let within = sym c.if-has_node.ensures in
    rw (found, within) c.place_at.ensures
