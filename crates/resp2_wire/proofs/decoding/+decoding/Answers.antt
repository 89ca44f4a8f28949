use Rattle.std.proofs.Common.{ap, sym, ◌∙◌, Ok}
use Rattle.std.proofs.lemmas.Result.{err_from_is_err_and}
use Rattle.resp2_wire.specs.Tree.{Trees, array}
use Rattle.resp2_wire.specs.View.{tree}
use Rattle.resp2_wire.specs.Replies.{many, reply_at}
use Rattle.resp2_wire.specs.View.{trees}
use Rattle.std.proofs.lemmas.Bool.{le-ltb}
use Rattle.resp2_wire.proofs.Elements.{goes_on, ends, is_done, trees-push}
use Rattle.resp2_wire.proofs.Arrays.{array_zero, array_gives, array_fails, fails_from, array_is_read}
use Rattle.resp2_wire.specs.Replies.{number_at}
use Rattle.resp2_wire.proofs.Keeping.{read_only}
use Rattle.resp2_wire.proofs.ReplyStaying.{is_number}
use Rattle.resp2_wire.proofs.decoding.+decoding.Goals as goal

pub array_at-returns-then-depth-eq0 : goal.array_at-returns-then-depth-eq0
array_at-returns-then-depth-eq0 t c = rw c.if-depth-eq0.true (array_zero c.args.bytes.now)

pub array_at-returns-in_err-count : goal.array_at-returns-in_err-count
array_at-returns-in_err-count t c =
    let p = err_from_is_err_and c.from_residual.result c.from_residual.ensures.1 in
    rw (p.1, p.2) (fails_from c.in_err-count.field-0.0 _ (array_fails _ c.args.depth c.args.bytes.now c.if-depth-eq0.false c.in_err-count.ensures))

pub array_at-returns : goal.array_at-returns
array_at-returns t c = array_gives (λ x. (tree x.0, x.1.now)) c.array_of.result c.args.depth c.args.bytes.now _ _ c.if-depth-eq0.false c.in_ok-count.ensures c.array_of.ensures

pub array_of-returns : goal.array_of-returns
array_of-returns t c = array_is_read (reply_at c.args.depth) c.args.count c.args.bytes.now _ _ c.if-count.false (le-ltb _ _ c.if-count-2.false) c.in_ok-replies.ensures ∙ ap (λ (ts : Trees). Ok (array ts, c.in_ok-replies.rest.now)) (sym c.from_vec.ensures)

pub many-returns-in_err-reply : goal.many-returns-in_err-reply
many-returns-in_err-reply t c =
    let p = err_from_is_err_and c.from_residual.result c.from_residual.ensures.1 in
    rw (p.1, p.2) (ends (reply_at c.args.depth) c.args.count c.loop.counter c.loop.rest.now (trees c.loop.replies.items) (many (reply_at c.args.depth) c.args.count c.args.bytes.now) c.loop.invariant c.in_err-reply.field-0.0 c.loop-test.true c.in_err-reply.ensures.read)

pub many-loop-preserved : goal.many-loop-preserved
many-loop-preserved t c =
    rw (c.in_ok-push.ensures.items, trees-push c.loop.replies.items c.in_ok-reply.reply) (goes_on (reply_at c.args.depth) c.args.count c.loop.counter c.loop.rest.now (trees c.loop.replies.items) (many (reply_at c.args.depth) c.args.count c.args.bytes.now) c.loop.invariant (tree c.in_ok-reply.reply) c.in_ok-reply.after.now c.loop-test.true c.in_ok-reply.ensures.read)

pub many-returns : goal.many-returns
many-returns t c = is_done (reply_at c.args.depth) c.args.count c.loop.counter c.loop.rest.now (trees c.loop.replies.items) (many (reply_at c.args.depth) c.args.count c.args.bytes.now) c.loop.invariant c.loop-test.false

pub reply_at-returns-then-mark-eq58-clause-memory : goal.reply_at-returns-then-mark-eq58-clause-memory
reply_at-returns-then-mark-eq58-clause-memory t c = read_only (λ x. (tree x.0, x.1.now)) c.number_at.result (number_at c.in-Some.rest.now) _ (is_number.tells c.in-Some.rest.now) c.number_at.ensures
