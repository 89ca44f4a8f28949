use Rattle.std.proofs.Common.{ap, sym, ◌∙◌, pos}
use Rattle.resp2_wire.specs.declared.reply.Reply.TheVariants.{Number}
use Rattle.store_commands.specs.Effects.{with_effect, without}
use Rattle.store_commands.proofs.Removals.{del-answer, del-apply}
use Rattle.store_commands.proofs.perform.keys.del.Goals as goal

pub returns-clause-change : goal.returns-clause-change
returns-clause-change g c =
    let s = g.E.Entries.entries c.args.entries.now in (
      ap (λ r. r.0) c.new.ensures ∙ c.count.ensures ∙ ap (λ n. Number (pos n)) c.in_ok-removed.ensures.count ∙ sym (del-answer s c.args.keys.now),
      ap (λ r. with_effect r.1 s) c.new.ensures ∙ ap (without s) c.in_ok-try_copy.ensures ∙ del-apply s c.args.keys.now,
    )
