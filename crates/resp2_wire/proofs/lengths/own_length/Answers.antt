use Rattle.resp2_wire.proofs.Measured.{line_measured}
use Rattle.resp2_wire.proofs.lengths.own_length.Goals as goal

pub returns-in-Array-clause-value : goal.returns-in-Array-clause-value
returns-in-Array-clause-value c =
    rw c.in-Array.is
    (line_measured c.in-Array.list c.get-in-Array.result.now c.count_length.result c.get-in-Array.ensures
    c.count_length.ensures.value)
