use Rattle.shared_trail.proofs.reading.read_on.Goals as goal

pub returns-clause-is_then : goal.returns-clause-is_then
returns-clause-is_then g c = (_, c.place_on.ensures.is_then)
