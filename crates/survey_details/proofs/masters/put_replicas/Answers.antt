use Rattle.std.proofs.Common.{rules, refl, subst, sym, None, Some}
use Rattle.server_commands.specs.declared.book.Server.{Server}
use Rattle.server_replicas.proofs.Put.{put_so}
use Rattle.server_replicas.specs.Asking.{AsksReplicas, IsListing, IsUnlisted}
use Rattle.survey_details.specs.Asking.{telling_of}
use Rattle.survey_details.specs.Masters.{IsReplicasText}
use Rattle.survey_details.proofs.masters.put_replicas.Goals as goal

pub returns-in-Ok-clause-told : goal.returns-in-Ok-clause-told
returns-in-Ok-clause-told g c =
    let asks = AsksReplicas (record { gave = g.I.ByteIn.gave; took = g.O.ByteOut.took }) in
    let telling = telling_of (record { gave = g.I.ByteIn.gave; took = g.O.ByteOut.took }) c.args.book.now in
    let told = c.as_slice.result.now in
    let links = c.args.links.now.items in
    let after = c.replicas_at.new.links.items in
    put_so c.put_replica_lines.result (IsReplicasText telling c.args.node) c.args.out.now.items
    c.put_replica_lines.new.out.items _ (
      Some told,
      (
        links,
        after,
        subst
            (λ (s : Server). IsListing (asks s.name) c.args.node links told after) c.server.ensures
            (subst (λ rs. IsListing (asks c.server.result.now.name) c.args.node links rs after)
            (sym c.as_slice.ensures.value) c.in-Ok.ensures.listed),
      ),
      refl,
    )
    c.put_replica_lines.ensures

pub returns-in-Err : goal.returns-in-Err
returns-in-Err g c =
    let asks = AsksReplicas (record { gave = g.I.ByteIn.gave; took = g.O.ByteOut.took }) in
    let telling = telling_of (record { gave = g.I.ByteIn.gave; took = g.O.ByteOut.took }) c.args.book.now in
    let links = c.args.links.now.items in
    let after = c.replicas_at.new.links.items in
    record {
      told =
          put_so c.put_untold_replicas.result (IsReplicasText telling c.args.node)
          c.args.out.now.items c.put_untold_replicas.new.out.items _ (
            None,
            (
              links,
              after,
              c.in-Err.field-0,
              subst
                  (λ (s : Server). IsUnlisted (asks s.name) c.args.node links c.in-Err.field-0 after)
                  c.server.ensures c.in-Err.ensures.listed,
            ),
            refl,
          )
          c.put_untold_replicas.ensures;
      kept = search rules;
    }
