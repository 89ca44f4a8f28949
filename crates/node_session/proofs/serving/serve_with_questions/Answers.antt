use Rattle.std.proofs.Common.{inl, inr, ◌≡◌, ◌++◌, ◌+◌, [], map, take, false, refl, sym, ◌∙◌, arith}
use Rattle.std.proofs.lemmas.List.{append-nil, map-append}
use Rattle.node_session.specs.Talk.{request_of, texts}
use Rattle.node_session.proofs.Answered.{talk_none, talk_then, texts-append, asks-append}
use Rattle.node_session.proofs.Closing.{starts, leaves_none, leaves_after, end_no_quit, go_on_then, after_ends, end_is, end_no_read, answer_no_read, end_not_interrupted}
use Rattle.node_session.proofs.serving.serve_with_questions.Goals as goal

pub loop-init : goal.loop-init
loop-init g c = (
  [],
  [],
  g.met.R.ByteIn.gave_none c.args.reader.now,
  talk_none _ _ _ g.P.NodePort.sends g.Q.Questions.hears g.Q.Questions.tells g.W.ByteOut.took g.W.ByteOut.failures g.met.W.ByteOut.took_none g.met.W.ByteOut.took_then c.args.node c.args.port.now c.args.questions.now c.args.writer.now 0 false (omega arith),
  refl,
  ([], sym c.new-decoder.ensures, refl),
  rw c.new-decoder.ensures starts,
  refl,
  refl,
  refl,
  refl,
  tt,
)

pub returns-then-count-eq0-clause-exact : goal.returns-then-count-eq0-clause-exact
returns-then-count-eq0-clause-exact g c =
    let i = c.loop.invariant in
    let gave = g.met.R.ByteIn.gave_then _ _ _ c.loop.counter 1 i.0 [] i.2 (rw c.if-count-eq0.true at c.in-Ok.ensures.gave) in
    (c.loop.counter + 1, i.0, i.1, texts i.1, rw append-nil at gave, i.3, (c.loop.decoder, i.5, end_is c.end_of_input.result c.loop.decoder (texts i.1) i.1 c.end_of_input.ensures i.6 refl), leaves_none c.end_of_input.result i.1 (end_no_quit _ _ c.end_of_input.ensures) i.11, λ e. absurd (end_no_read _ _ c.end_of_input.ensures e), λ e. absurd (end_not_interrupted _ _ c.end_of_input.ensures e))

pub returns-in-Err-feed-clause-exact : goal.returns-in-Err-feed-clause-exact
returns-in-Err-feed-clause-exact g c =
    let i = c.loop.invariant in (
      c.loop.counter + 1,
      i.0 ++ take c.in-Ok.count c.read.new.buffer,
      i.1,
      texts i.1,
      g.met.R.ByteIn.gave_then _ _ _ c.loop.counter 1 i.0 _ i.2 c.in-Ok.ensures.gave,
      i.3,
      (c.loop.decoder ++ take c.in-Ok.count c.read.new.buffer, c.feed.ensures.refused i.0 (map request_of i.1) i.5, inr (c.loop.decoder, take c.in-Ok.count c.read.new.buffer, refl, i.6, refl)),
      (i.1, [], sym (append-nil i.1), omega arith, i.11),
      λ e. absurd cc,
      λ e. record {
        reads_before = c.loop.counter;
        before = i.0;
        piece = take c.in-Ok.count c.read.new.buffer;
        middle = c.loop.reader;
        answered = i.1;
        others = [];
        left = c.loop.decoder;
        more = [];
        gave_before = i.2;
        gave_last = c.in-Ok.ensures.gave;
        one_read = refl;
        both = refl;
        requests = i.5;
        all = i.6;
        no_quit = i.11;
        exchanges = sym (append-nil i.1);
        written = sym (append-nil (texts i.1));
      },
    )

pub returns-in-Err-clause-exact : goal.returns-in-Err-clause-exact
returns-in-Err-clause-exact g c =
    let i = c.loop.invariant in
    let gave = g.met.R.ByteIn.gave_then _ _ _ c.loop.counter 1 i.0 [] i.2 c.in-Err.ensures.failed.1 in
    (c.loop.counter + 1, i.0, i.1, texts i.1, rw append-nil at gave, i.3, (c.loop.decoder, i.5, (i.6, refl)), i.11, λ e. inl (λ same. c.in-Err.ensures.failed.0 (same ∙ sym i.8)), λ e. absurd e)

pub returns-in-Err-answer_all-clause-exact : goal.returns-in-Err-answer_all-clause-exact
returns-in-Err-answer_all-clause-exact g c =
    let i = c.loop.invariant in
    let a = c.in-Err-answer_all.ensures.talk in
    let piece = take c.in-Ok.count c.read.new.buffer in
    let fed = c.in-Ok-feed.ensures.fed i.0 (map request_of i.1) i.5 in
    let m = talk_then _ _ _ g.P.NodePort.sends g.Q.Questions.hears g.Q.Questions.tells g.W.ByteOut.took g.W.ByteOut.failures g.met.W.ByteOut.took_none g.met.W.ByteOut.took_then c.args.node _ _ _ _ _ _ _ _ _ _ _ _ false i.1 a.0 (texts i.1) a.1 i.3 (rw i.4 at a.2) in (
      c.loop.counter + 1,
      i.0 ++ piece,
      i.1 ++ a.0,
      texts i.1 ++ a.1,
      g.met.R.ByteIn.gave_then _ _ _ c.loop.counter 1 i.0 _ i.2 c.in-Ok.ensures.gave,
      m,
      (c.answer_all.new.decoder, rw (map-append request_of i.1 a.0) (a.3 _ _ fed), after_ends c.in-Err-answer_all.end c.answer_all.new.decoder a.1 i.1 a.0 a.5),
      leaves_after c.in-Err-answer_all.end i.1 a.0 i.11 a.6,
      λ e. absurd (answer_no_read _ c.answer_all.new.decoder a.1 a.0 a.5 e),
      λ e. record {
        reads_before = c.loop.counter;
        before = i.0;
        piece = piece;
        middle = c.loop.reader;
        answered = i.1;
        others = a.0;
        left = c.loop.decoder;
        more = a.1;
        gave_before = i.2;
        gave_last = c.in-Ok.ensures.gave;
        one_read = refl;
        both = refl;
        requests = i.5;
        all = i.6;
        no_quit = i.11;
        exchanges = refl;
        written = refl;
      },
    )

pub loop-preserved : goal.loop-preserved
loop-preserved g c =
    let i = c.loop.invariant in
    let a = c.in-Ok-answer_all.ensures.talk in
    let piece = take c.in-Ok.count c.read.new.buffer in
    let fed = c.in-Ok-feed.ensures.fed i.0 (map request_of i.1) i.5 in
    let m = talk_then _ _ _ g.P.NodePort.sends g.Q.Questions.hears g.Q.Questions.tells g.W.ByteOut.took g.W.ByteOut.failures g.met.W.ByteOut.took_none g.met.W.ByteOut.took_then c.args.node _ _ _ _ _ _ _ _ _ _ _ _ false i.1 a.0 (texts i.1) a.1 i.3 (rw i.4 at a.2) in
    let same : texts i.1 ++ a.1 ≡ texts (i.1 ++ a.0) = rw (a.5.1, texts-append i.1 a.0) refl in
    let on = c.in-Ok.ensures.goes_on (omega arith) in (
      i.0 ++ piece,
      i.1 ++ a.0,
      g.met.R.ByteIn.gave_then _ _ _ c.loop.counter 1 i.0 _ i.2 c.in-Ok.ensures.gave,
      rw same at m,
      rw (a.4, i.4, asks-append false i.1 a.0) refl,
      rw (map-append request_of i.1 a.0) (a.3 _ _ fed),
      a.5.0,
      c.in-Ok-answer_all.ensures.kept ∙ i.7,
      c.in-Ok.ensures.ok ∙ i.8,
      on ∙ i.9,
      c.in-Ok-answer_all.ensures.count ∙ i.10,
      go_on_then i.1 a.0 i.11 a.6,
    )

pub returns-clause-exact : goal.returns-clause-exact
returns-clause-exact g c =
    let i = c.loop.invariant in
    (c.loop.counter, i.0, i.1, texts i.1, i.2, i.3, (c.loop.decoder, i.5, (i.6, refl)), i.11, λ e. inr (omega (arith, c.loop.auto.counter-end)), λ e. absurd e)
