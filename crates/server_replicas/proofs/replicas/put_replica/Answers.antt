use Rattle.std.proofs.Common.{ap, inl, inr, refl}
use Rattle.server_replicas.proofs.Put.{put_so}
use Rattle.server_replicas.specs.Replicas.{IsReplicaText, asking_of}
use Rattle.server_replicas.specs.Telling.{lacks_text}
use Rattle.server_replicas.proofs.replicas.put_replica.Goals as goal

pub returns-in-Ok : goal.returns-in-Ok
returns-in-Ok g c =
    let asking = asking_of g.D.Reach.reaches g.D.Reach.refuses
    (record { gave = g.D.Input.ByteIn.gave; took = g.D.Output.ByteOut.took }) c.args.credentials.now in
    put_so c.put_lacks.result (IsReplicaText asking c.args.survey.now c.args.node c.args.replica.now) _ _ _
    (inr (
      c.in-Some.address,
      c.in-Some.ensures,
      inl (_, c.in-Ok.ensures, ap (lacks_text c.args.survey.now c.args.node c.args.replica.now) c.get.ensures),
    ))
    c.put_lacks.ensures

pub returns-in-Err : goal.returns-in-Err
returns-in-Err g c =
    let asking = asking_of g.D.Reach.reaches g.D.Reach.refuses
    (record { gave = g.D.Input.ByteIn.gave; took = g.D.Output.ByteOut.took }) c.args.credentials.now in
    put_so c.put_silent-in-Err.result (IsReplicaText asking c.args.survey.now c.args.node c.args.replica.now) _ _ _
    (inr (c.in-Some.address, c.in-Some.ensures, inr (_, c.in-Err.ensures, refl))) c.put_silent-in-Err.ensures
