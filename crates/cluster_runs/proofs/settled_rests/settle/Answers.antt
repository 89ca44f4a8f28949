use Rattle.std.proofs.Common.{refl}
use Rattle.cluster_runs.proofs.settled_rests.settle.Goals as goal

pub returns-clause-settled : goal.returns-clause-settled
returns-clause-settled g c =
    let h = c.in_ok-counts.ensures.settled in
    (_, _, _, refl, refl, refl, (c.settle_open.new.links.items, (h.0, h.1, h.2)))
