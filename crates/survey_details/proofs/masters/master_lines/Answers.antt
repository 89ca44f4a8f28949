use Rattle.std.proofs.Common.{◌∙◌, ℕ, List, [], arith, refl, subst, sym, length}
use Rattle.server_replicas.proofs.Put.{put_all, put_one}
use Rattle.survey_details.specs.Asking.{telling_of}
use Rattle.survey_details.specs.Masters.{AreMasterTexts, IsMasterText}
use Rattle.survey_details.proofs.masters.master_lines.Goals as goal

pub loop-number-preserved : goal.loop-number-preserved
loop-number-preserved g c =
    let telling = telling_of (record { gave = g.I.ByteIn.gave; took = g.O.ByteOut.took }) c.args.book.now in
    let one = c.in_ok-put_master.ensures.told in
    record {
      kept = c.put_master.ensures.kept ∙ c.loop-number.invariant.kept;
      put =
          put_one (AreMasterTexts telling c.args.details c.args.book.now c.args.survey.now) c.loop-number.number []
          c.loop-number.out.items c.put_master.new.out.items one.0 one.1
          (λ a is. (
            a,
            one.0,
            refl,
            is,
            subst (λ n. IsMasterText telling c.args.details c.args.book.now c.args.survey.now n one.0)
                c.of-node.ensures one.2,
          ))
          c.loop-number.invariant.put;
    }

pub returns-clause-told : goal.returns-clause-told
returns-clause-told g c =
    let telling = telling_of (record { gave = g.I.ByteIn.gave; took = g.O.ByteOut.took }) c.args.book.now in
    let texts : ℕ → List ℕ → Type 0 =
    AreMasterTexts telling c.args.details c.args.book.now c.args.survey.now in
    let put = put_all texts c.loop-number.number (length c.args.book.now) [] c.loop-number.out.items
    (omega (arith, c.nodes-number-end.ensures.value)) c.loop-number.invariant.put in
    subst (texts (length c.args.book.now)) (sym put.1) put.2
