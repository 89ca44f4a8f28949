use Rattle.std.proofs.Common.{ap, ◌∙◌, ◌++◌, [], ◌∷◌}
use Rattle.store_commands.proofs.Performed.{texts-step, texts-end}
use Rattle.store_commands.proofs.perform.texts.texts_of.Goals as goal

pub loop-key-preserved : goal.loop-key-preserved
loop-key-preserved g c =
    texts-step (g.E.Entries.entries c.args.entries.now) c.args.keys.now c.loop-key.key-index c.key-item.result c.loop-key.replies.items _ _ c.loop-key-test.true c.key-item.is
    (c.in_ok-push.ensures.items ∙ ap (λ r. c.loop-key.replies.items ++ r ∷ []) c.in_ok-text_if_one.ensures.reply) c.loop-key.invariant

pub returns : goal.returns
returns g c = texts-end (g.E.Entries.entries c.args.entries.now) c.args.keys.now c.loop-key.key-index _ _ c.loop-key-test.false c.loop-key.invariant
