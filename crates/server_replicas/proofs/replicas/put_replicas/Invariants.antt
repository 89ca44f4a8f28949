use Rattle.server_replicas.proofs.Put.{IsPut}
use Rattle.server_replicas.specs.Replicas.{AreReplicaTexts, asking_of}
use Rattle.server_replicas.proofs.replicas.put_replicas.Given as goal

-- the texts of those before are put
abbrev pub invariant-loop-place : goal.invariant-loop-place
invariant-loop-place g l =
    IsPut
    (AreReplicaTexts
    (asking_of g.D.Reach.reaches g.D.Reach.refuses
    (record { gave = g.D.Input.ByteIn.gave; took = g.D.Output.ByteOut.took }) l.credentials) l.survey l.node
    l.replicas) l.place l.fn.out.items l.out.items
