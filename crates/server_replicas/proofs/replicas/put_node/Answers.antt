use Rattle.std.proofs.Common.{rules, inl, inr, refl, subst, sym, length}
use Rattle.server_commands.specs.Servers.{server_at}
use Rattle.server_commands.specs.declared.book.Server.{Server}
use Rattle.server_replicas.proofs.Put.{put_as, put_so}
use Rattle.server_replicas.specs.Asking.{AsksReplicas, IsListing, IsUnlisted}
use Rattle.server_replicas.specs.Replicas.{AreReplicaTexts, IsNodeText, IsValkey, asking_of}
use Rattle.server_replicas.proofs.replicas.put_node.Goals as goal

pub returns-in-Ok-clause-told : goal.returns-in-Ok-clause-told
returns-in-Ok-clause-told g c =
    let asking = asking_of g.D.Reach.reaches g.D.Reach.refuses
    (record { gave = g.D.Input.ByteIn.gave; took = g.D.Output.ByteOut.took }) c.args.credentials.now in
    let valkey : IsValkey c.args.version.now = search rules in
    let told = c.as_slice.result.now in
    let after = c.replicas_at.new.links.items in
    let id = (server_at c.args.book.now c.args.node).name in
    put_as c.put_replicas.result (AreReplicaTexts asking c.args.survey.now c.args.node told (length told))
    (IsNodeText asking c.args.book.now c.args.survey.now c.args.node c.args.version.now) c.args.out.now.items
    c.put_replicas.new.out.items
    (λ t are. inr (inr (
      valkey,
      inl (
        c.args.links.now.items,
        after,
        told,
        subst (λ rs. IsListing (asking.replicas id) c.args.node c.args.links.now.items rs after)
            (sym c.as_slice.ensures.value)
            (subst
            (λ (s : Server). IsListing (asking.replicas s.name) c.args.node c.args.links.now.items
            c.in-Ok.replicas.items after) c.server.ensures c.in-Ok.ensures.listed),
        are,
      ),
    )))
    c.put_replicas.ensures

pub returns-in-Err : goal.returns-in-Err
returns-in-Err g c =
    let asking = asking_of g.D.Reach.reaches g.D.Reach.refuses
    (record { gave = g.D.Input.ByteIn.gave; took = g.D.Output.ByteOut.took }) c.args.credentials.now in
    let valkey : IsValkey c.args.version.now = search rules in
    record {
      told =
          put_so c.put_untold.result
          (IsNodeText asking c.args.book.now c.args.survey.now c.args.node c.args.version.now) c.args.out.now.items
          c.put_untold.new.out.items _
          (inr (inr (
            valkey,
            inr (
              c.args.links.now.items,
              c.replicas_at.new.links.items,
              c.in-Err.field-0,
              subst
                  (λ (s : Server). IsUnlisted (asking.replicas s.name) c.args.node c.args.links.now.items
                  c.in-Err.field-0 c.replicas_at.new.links.items) c.server.ensures c.in-Err.ensures.listed,
              refl,
            ),
          )))
          c.put_untold.ensures;
      kept = search rules;
    }
