use Rattle.live_cluster.proofs.cluster.Cluster+B+SeatTable+B+LockedTrail+B+S+A.read_at.Goals as goal

pub returns : goal.returns
returns g c =
    let known = c.read_on.ensures.is_then in (known.0, _, rw c.requires.node known.1, c.read_on.ensures.told)
