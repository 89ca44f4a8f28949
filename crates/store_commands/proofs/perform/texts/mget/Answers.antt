use Rattle.std.proofs.Common.{ap, ◌∙◌, map}
use Rattle.resp2_wire.specs.View.{trees}
use Rattle.resp2_wire.specs.declared.reply.Reply.TheVariants.{Array}
use Rattle.store_commands.specs.Act.{text_if_one}
use Rattle.store_commands.specs.Apply.{look_up}
use Rattle.store_commands.specs.Effects.{with_effect}
use Rattle.store_commands.proofs.Performed.{mget-answer, mget-apply}
use Rattle.store_commands.proofs.perform.texts.mget.Goals as goal

pub returns-clause-change : goal.returns-clause-change
returns-clause-change g c =
    let s = g.E.Entries.entries c.args.entries.now in (
      ap (λ r. r.0) c.new.ensures
          ∙ ap (λ ts. Array ts) (c.from_vec-replies.ensures ∙ ap trees (c.in_ok-texts_of.ensures ∙ ap (λ ks. map text_if_one (look_up s ks)) c.get.ensures.value))
          ∙ mget-answer s c.args.keys.now,
      ap (λ r. with_effect r.1 s) c.new.ensures ∙ mget-apply s c.args.keys.now,
    )
