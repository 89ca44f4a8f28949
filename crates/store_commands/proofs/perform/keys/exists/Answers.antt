use Rattle.std.proofs.Common.{ap, ◌∙◌}
use Rattle.store_commands.specs.Replies.{count}
use Rattle.store_commands.specs.Effects.{with_effect}
use Rattle.store_commands.proofs.Performed.{exists-answer, exists-apply}
use Rattle.store_commands.proofs.perform.keys.exists.Goals as goal

pub returns-clause-change : goal.returns-clause-change
returns-clause-change g c =
    let s = g.E.Entries.entries c.args.entries.now in (
      ap (λ r. r.0) c.new.ensures ∙ c.count.ensures ∙ ap count c.count_there.ensures.count ∙ exists-answer s c.args.keys.now,
      ap (λ r. with_effect r.1 s) c.new.ensures ∙ exists-apply s c.args.keys.now,
    )
