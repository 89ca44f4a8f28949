use Rattle.std.proofs.Common.{◌∙◌}
use Rattle.resp2_wire.proofs.Measured.{first_measured}
use Rattle.resp2_wire.proofs.lengths.first_length.Goals as goal

pub returns-in-Array : goal.returns-in-Array
returns-in-Array c =
    rw c.in-Array.is
    (c.saturating_add.ensures ∙ first_measured c.in-Array.list c.get-replies.result.now c.counted.result.now
    c.own_lengths.result c.count_length.result c.get-replies.ensures c.counted.ensures c.own_lengths.ensures
    c.count_length.ensures.value)
