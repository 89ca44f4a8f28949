use Rattle.std.proofs.Common.{◌≡◌, ◌∙◌, ℕ, List, [], Some, arith, refl, subst, sym, length}
use Rattle.std.specs.Prelude.{slice_get}
use Rattle.server_replicas.proofs.Put.{put_all, put_one}
use Rattle.server_replicas.specs.Replicas.{AreNodeTexts, IsNodeText, asking_of}
use Rattle.server_replicas.proofs.replicas.replica_lines.Goals as goal

pub loop-number-preserved : goal.loop-number-preserved
loop-number-preserved g c =
    let asking = asking_of g.D.Reach.reaches g.D.Reach.refuses
    (record { gave = g.D.Input.ByteIn.gave; took = g.D.Output.ByteOut.took }) c.args.credentials.now in
    let one = c.in_ok-put_node.ensures.told in
    let version = c.version_at-version.result.now in
    record {
      kept = c.put_node.ensures.kept ∙ c.loop-number.invariant.kept;
      put =
          put_one (AreNodeTexts asking c.args.book.now c.args.survey.now c.args.versions.now) c.loop-number.number []
          c.loop-number.out.items c.put_node.new.out.items one.0 one.1
          (λ a is. (
            a,
            one.0,
            version,
            refl,
            is,
            subst (λ n. slice_get c.args.versions.now n ≡ Some version) c.of-node.ensures
                c.version_at-version.ensures,
            subst (λ n. IsNodeText asking c.args.book.now c.args.survey.now n version one.0) c.of-node.ensures one.2,
          ))
          c.loop-number.invariant.put;
    }

pub returns-clause-told : goal.returns-clause-told
returns-clause-told g c =
    let asking = asking_of g.D.Reach.reaches g.D.Reach.refuses
    (record { gave = g.D.Input.ByteIn.gave; took = g.D.Output.ByteOut.took }) c.args.credentials.now in
    let texts : ℕ → List ℕ → Type 0 =
    AreNodeTexts asking c.args.book.now c.args.survey.now c.args.versions.now in
    let put = put_all texts c.loop-number.number (length c.args.book.now) [] c.loop-number.out.items
    (omega (arith, c.nodes-number-end.ensures.value)) c.loop-number.invariant.put in
    subst (texts (length c.args.book.now)) (sym put.1) put.2
