use Rattle.std.proofs.Common.{arith, ap, ◌∙◌, if◌then◌else◌, drop, ◌+◌}
use Rattle.store_commands.proofs.Performed.{there-step, there}
use Rattle.store_commands.proofs.perform.keys.count_there.Goals as goal

pub loop-key-preserved : goal.loop-key-preserved
loop-key-preserved g c =
    let s = g.E.Entries.entries c.args.entries.now in
    let ks = c.get-key-items.result.now in
    let one = c.one_if-there.ensures.number ∙ ap (λ b. if b then 1 else 0) c.is_there.ensures in (
      ap (λ n. (c.loop-key.there + n) + there s (drop (c.loop-key.key-index + 1) ks)) one ∙ there-step s ks c.loop-key.key-index c.key-item.result c.loop-key.there _ c.loop-key-test.true c.key-item.is c.loop-key.invariant.0,
      omega arith,
    )
