use Rattle.std.proofs.Common.{◌+◌, ap, arith, option_map, refl}
use Rattle.node_forgetting.proofs.Told.{one_told}
use Rattle.node_forgetting.specs.Telling.{asking_of}
use Rattle.node_forgetting.proofs.told_nodes.tell_all.Goals as goal

pub loop-place-init : goal.loop-place-init
loop-place-init g c = record { are = (refl, c.requires); few = omega arith }

pub loop-place-preserved : goal.loop-place-preserved
loop-place-preserved g c =
    let asking = asking_of g.D.Reach.reaches g.D.Reach.refuses
    (record { gave = g.D.Input.ByteIn.gave; took = g.D.Output.ByteOut.took }) c.args.credentials.now g.T.Countdown.over
    in
    record {
      are =
          one_told asking c.args.credentials.now c.args.leaving.now.server.now.name c.args.servers.now c.loop-place.place
          c.loop-place.told _ c.loop-place.out.items _ c.server_at-server.result.now
          (option_map (λ v. v.items) c.in_ok-reason.reason)
          c.loop-place.invariant.are c.server_at-server.ensures c.in_ok-reason.ensures
          (ap (λ n. c.loop-place.told + n) c.told_by-told.ensures.value) c.in_ok-put_outcome.ensures;
      few = omega (arith, c.told_by-told.ensures.most, c.loop-place.invariant.few);
    }
