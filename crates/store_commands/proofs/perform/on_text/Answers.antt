use Rattle.std.proofs.Common.{sym, ◌∙◌}
use Rattle.store_commands.proofs.Refusals.{text_stays}
use Rattle.store_commands.proofs.perform.on_text.Goals as goal

pub returns-then-is_error-clause-change : goal.returns-then-is_error-clause-change
returns-then-is_error-clause-change g c =
    text_stays (g.E.Entries.entries c.args.entries.now) c.args.key.now c.get.result.now c.args.operation.now _ c.in_ok-reply.reply c.new.result c.in_ok-reply.ensures.reply c.get-found.ensures c.get.ensures.value
    (sym c.is_error.ensures ∙ c.if-is_error.true) c.new.ensures
