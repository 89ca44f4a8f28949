use Rattle.std.proofs.Common.{ap, sym, subst, ◌∙◌, length}
use Rattle.store_commands.specs.Act.{texts_put}
use Rattle.store_commands.specs.Apply.{put_all}
use Rattle.store_commands.specs.Store.{HasDistinctKeys, after_writes}
use Rattle.store_commands.proofs.Assigned.{last_writes-distinct, last_writes-written}
use Rattle.store_commands.proofs.Stores.{on_ok_then}
use Rattle.store_commands.proofs.commit.assigning.assign.Goals as goal

pub write_all-requires : goal.write_all-requires
write_all-requires g c = subst HasDistinctKeys (sym c.in_ok-writes.ensures) (last_writes-distinct c.keys.result.now c.values.result.now)

pub returns-clause-ok : goal.returns-clause-ok
returns-clause-ok g c =
    let s = g.E.Entries.entries c.args.entries.now in
    on_ok_then c.write_all.result _ _ c.write_all.ensures.ok
    (λ p. p
    ∙ ap (after_writes s) c.in_ok-writes.ensures
    ∙ last_writes-written s c.keys.result.now c.values.result.now (ap length c.keys.ensures.value ∙ sym c.values.ensures.count)
    ∙ ap (λ ks. put_all s ks (texts_put c.values.result.now)) c.keys.ensures.value
    ∙ ap (λ ts. put_all s c.args.assignments.now.0 (texts_put ts)) c.values.ensures.value)
