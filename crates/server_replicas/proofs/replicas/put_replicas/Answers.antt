use Rattle.std.proofs.Common.{arith, refl}
use Rattle.server_replicas.proofs.Put.{put_all, put_none, put_one}
use Rattle.server_replicas.specs.Replicas.{AreReplicaTexts, asking_of}
use Rattle.server_replicas.proofs.replicas.put_replicas.Goals as goal

pub loop-place-init : goal.loop-place-init
loop-place-init g c =
    let asking = asking_of g.D.Reach.reaches g.D.Reach.refuses
    (record { gave = g.D.Input.ByteIn.gave; took = g.D.Output.ByteOut.took }) c.args.credentials.now in
    put_none (AreReplicaTexts asking c.args.survey.now c.args.node c.args.replicas.now) c.args.out.now.items refl

pub loop-place-preserved : goal.loop-place-preserved
loop-place-preserved g c =
    let asking = asking_of g.D.Reach.reaches g.D.Reach.refuses
    (record { gave = g.D.Input.ByteIn.gave; took = g.D.Output.ByteOut.took }) c.args.credentials.now in
    let one = c.in_ok-put_replica.ensures in
    put_one (AreReplicaTexts asking c.args.survey.now c.args.node c.args.replicas.now) c.loop-place.place
    c.args.out.now.items c.loop-place.out.items c.put_replica.new.out.items one.0 one.1
    (λ a is. (a, one.0, _, refl, is, c.replica_at-replica.ensures, one.2)) c.loop-place.invariant

pub returns : goal.returns
returns g c =
    let asking = asking_of g.D.Reach.reaches g.D.Reach.refuses
    (record { gave = g.D.Input.ByteIn.gave; took = g.D.Output.ByteOut.took }) c.args.credentials.now in
    put_all (AreReplicaTexts asking c.args.survey.now c.args.node c.args.replicas.now) c.loop-place.place _
    c.args.out.now.items c.loop-place.out.items (omega arith) c.loop-place.invariant
