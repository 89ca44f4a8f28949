use Rattle.std.proofs.Common.{◌++◌, ◌∷◌, [], refl, ◌∙◌, arith}
use Rattle.std.proofs.lemmas.List.{append-nil}
use Rattle.std.proofs.lemmas.Result.{err_from_is_err_and}
use Rattle.node_session.specs.Talk.{texts}
use Rattle.node_session.proofs.Closing.{more_talk, more_goes, talked_more, broke_off, left_at, go_on_then, leaves_none, fault_no_quit, at_fault, kept_by_fault}
use Rattle.node_session.proofs.Answered.{more_written, talk_none}
use Rattle.node_session.proofs.serving.answer_all.Goals as goal

pub loop-request-init : goal.loop-request-init
loop-request-init g c =
    let le = c.type_inv._before.fits in (
      refl,
      refl,
      (
        [],
        record {
          talk = talk_none _ _ _ g.P.NodePort.sends g.Q.Questions.hears g.Q.Questions.tells g.W.ByteOut.took g.W.ByteOut.failures g.met.W.ByteOut.took_none g.met.W.ByteOut.took_then c.args.node c.args.port.now c.args.questions.now c.args.writer.now c.args.sent.now c.args.asking.now (omega (arith, le));
          goes = λ stream given h. rw (append-nil given) h;
          asked = refl;
        },
        tt,
      ),
    )

pub returns-in-Ok-None-clause-talk : goal.returns-in-Ok-None-clause-talk
returns-in-Ok-None-clause-talk g c =
    let t = c.loop-request.invariant.2 in
    let n = rw c.in-Ok-None.field-0-is at c.in-Ok-None.ensures.next in
    (t.0, texts t.0, t.1.talk, rw n.1 t.1.goes, t.1.asked, (rw n.1 n.0, refl), t.2)

pub returns-in_err-answer_one-in-Ok-Some-clause-talk : goal.returns-in_err-answer_one-in-Ok-Some-clause-talk
returns-in_err-answer_one-in-Ok-Some-clause-talk g c =
    let t = c.loop-request.invariant.2 in
    let a = c.in_err-answer_one-in-Ok-Some.ensures.talk in
    let given = rw c.in-Ok-Some.field-0-is at c.in-Ok-Some.ensures.given in
    let e = c.in_err-answer_one-in-Ok-Some.field-0.0 in
    let p = err_from_is_err_and c.from_residual.result c.from_residual.ensures.1 in
    let then = g.met.W.ByteOut.took_then in
    let none = g.met.W.ByteOut.took_none in (
      t.0 ++ a.0 ∷ [],
      texts t.0 ++ a.1,
      more_talk _ _ _ g.P.NodePort.sends g.Q.Questions.hears g.Q.Questions.tells g.W.ByteOut.took g.W.ByteOut.failures then none c.args.node _ _ _ _ _ _ _ _ _ _ _ _ _ _ _ _ c.next.new.self t.0 a.0 a.1 t.1 a.3,
      more_goes _ _ _ g.P.NodePort.sends g.Q.Questions.hears g.Q.Questions.tells g.W.ByteOut.took g.W.ByteOut.failures then none c.args.node _ _ _ _ _ _ _ _ _ _ _ _ _ t.0 a.0 t.1 (rw (← a.2) at given),
      rw p.1 tt,
      rw (p.1, p.2) (broke_off e c.next.new.self a.1 t.0 a.0 a.4),
      rw (p.1, p.2) (left_at e a.1 t.0 a.0 t.2 a.4),
    )

pub loop-request-preserved : goal.loop-request-preserved
loop-request-preserved g c =
    let t = c.loop-request.invariant.2 in
    let a = c.in_ok-answer_one-in-Ok-Some.ensures.talk in
    let given = rw c.in-Ok-Some.field-0-is at c.in-Ok-Some.ensures.given in
    let then = g.met.W.ByteOut.took_then in
    let none = g.met.W.ByteOut.took_none in
    (c.in_ok-answer_one-in-Ok-Some.ensures.kept ∙ c.loop-request.invariant.0, c.in_ok-answer_one-in-Ok-Some.ensures.count ∙ c.loop-request.invariant.1, (t.0 ++ a.0 ∷ [], rw (c.is_asking.ensures, ← a.2) (talked_more _ _ _ g.P.NodePort.sends g.Q.Questions.hears g.Q.Questions.tells g.W.ByteOut.took g.W.ByteOut.failures then none c.args.node _ _ _ _ _ _ _ _ _ _ _ _ _ _ _ _ c.next.new.self t.0 a.0 a.1 t.1 a.3 a.4.0 (rw (← a.2) at given)), go_on_then t.0 (a.0 ∷ []) t.2 (a.4.1, tt)))

pub returns-in-Err-clause-talk : goal.returns-in-Err-clause-talk
returns-in-Err-clause-talk g c =
    let t = c.loop-request.invariant.2 in
    let w = c.put_fault.ensures.wrote in
    let same = kept_by_fault _ _ _ c.in-Err.ensures.next in
    let then = g.met.W.ByteOut.took_then in
    let none = g.met.W.ByteOut.took_none in
    (t.0, texts t.0 ++ w.0, more_written _ _ _ g.P.NodePort.sends g.Q.Questions.hears g.Q.Questions.tells g.W.ByteOut.took g.W.ByteOut.failures none then c.args.node _ _ _ _ _ _ _ _ _ _ _ t.0 (texts t.0) w.0 t.1.talk w.1 w.2, rw same t.1.goes, tt, at_fault c.put_fault.result c.in-Err.fault _ c.next.new.self w.0 t.0 c.in-Err.ensures.next w.3, leaves_none c.put_fault.result t.0 (fault_no_quit c.in-Err.fault c.put_fault.result w.0 w.3) t.2)
