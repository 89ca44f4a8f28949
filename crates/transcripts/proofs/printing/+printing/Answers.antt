use Rattle.std.proofs.Common.{◌≡◌, ◌++◌, length, decimal, refl, arith}
use Rattle.std.proofs.lemmas.Result.{on_ok_weaker}
use Rattle.resp2_wire.specs.View.{tree, trees}
use Rattle.resp2_wire.proofs.Written.{smaller}
use Rattle.transcripts.specs.Printing.{line, shown, all_shown}
use Rattle.transcripts.proofs.Printed.{one_printed, all_shown-grows, array_shown}
use Rattle.transcripts.proofs.printing.+printing.Goals as goal

pub print_replies-print_reply-requires : goal.print_replies-print_reply-requires
print_replies-print_reply-requires t c = (
  omega (
    arith,
    c.decreases,
    smaller c.args.replies.now c.loop-reply.reply-index
        c.reply-item.result c.loop-reply-test.true c.reply-item.is,
  ),
  tt,
)

pub print_replies-loop-reply-preserved : goal.print_replies-loop-reply-preserved
print_replies-loop-reply-preserved t c =
    one_printed
    (λ r. shown c.args.indent (tree r))
    (λ rs. all_shown c.args.indent (trees rs))
    (all_shown-grows c.args.indent)
    c.args.replies.now
    c.loop-reply.reply-index
    c.reply-item.result
    c.reply-item.result
    c.args.printed.now.items
    c.loop-reply.printed.items
    _
    c.loop-reply-test.true
    c.reply-item.is
    c.loop-reply.invariant
    c.in_ok-print_reply.ensures

pub print_reply-returns-in_ok-deeper-in-Array : goal.print_reply-returns-in_ok-deeper-in-Array
print_reply-returns-in_ok-deeper-in-Array t c =
    let header : c.print_text-in-Array.new.printed.items ≡ c.args.printed.now.items ++ line c.args.indent 42 (decimal (length c.get-replies.result.now)) = rw (c.in_ok-print_text-in-Array.ensures, c.as_bytes-in-Array.ensures.value, c.format-in-Array.ensures.text) refl in
    on_ok_weaker c.print_replies.result (λ e. rw c.in-Array.is (array_shown c.args.indent c.in_ok-deeper-in-Array.field-0 c.in-Array.list c.get-replies.result.now c.args.printed.now.items c.print_text-in-Array.new.printed.items _ c.in_ok-deeper-in-Array.ensures c.get-replies.ensures header e)) c.print_replies.ensures
