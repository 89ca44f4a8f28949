use Rattle.std.proofs.Common.{ap, ◌∙◌}
use Rattle.store_commands.specs.Act.{rename_result}
use Rattle.store_commands.specs.Effects.{with_effect}
use Rattle.store_commands.specs.declared.effect.Effect.TheVariants as effect
use Rattle.store_commands.proofs.Performed.{rename-answer, rename-apply}
use Rattle.store_commands.proofs.perform.keys.rename.Goals as goal

pub returns-clause-change : goal.returns-clause-change
returns-clause-change g c =
    let s = g.E.Entries.entries c.args.entries.now in (
      ap (λ r. r.0) c.new.ensures ∙ c.in_ok-reply.ensures.reply ∙ ap (λ o. (rename_result o).0) c.get-2.ensures ∙ rename-answer s c.args.keys.now _ _ _ c.both.ensures c.get.ensures.value,
      ap (λ r. with_effect r.1 s) c.new.ensures ∙ ap (λ ks. with_effect (effect.Move ks) s) c.in_ok-try_copy.ensures ∙ rename-apply s c.args.keys.now,
    )
