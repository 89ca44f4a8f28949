use Rattle.std.proofs.Common.{rules, ◌∙◌, Ok, Err}
use Rattle.slot_key_counts.specs.Rounds.{talk}
use Rattle.slot_key_counts.specs.Tables.{told_in}
use Rattle.slot_key_counts.proofs.Walked.{all_heard, none_heard, one_heard}
use Rattle.slot_key_counts.proofs.batches.hear_batch.Goals as goal

pub loop-place-preserved : goal.loop-place-preserved
loop-place-preserved g c = (
  (λ r links' rest.
      c.loop-place.invariant.0 r links'
      (one_heard (talk (record { gave = g.I.ByteIn.gave; took = g.O.ByteOut.took })) c.args.node c.args.slots.now
      c.loop-place.place c.index-slots-place.result _ (told_in c.loop-place.table) (told_in c.put.new.self) c.loop-place.links.items
      c.hear_keys.new.links.items links' c.in-Ok.keys r (search rules) c.index-slots-place.is (search rules) c.in-Ok.ensures.heard
      c.put.ensures.told rest)),
  c.put.ensures.nodes ∙ c.loop-place.invariant.1,
  c.in-Ok.ensures.count ∙ c.loop-place.invariant.2,
)

pub returns-in-Err-clause-heard : goal.returns-in-Err-clause-heard
returns-in-Err-clause-heard g c =
    c.loop-place.invariant.0 (Err c.in-Err.fault) c.hear_keys.new.links.items
    (none_heard (talk (record { gave = g.I.ByteIn.gave; took = g.O.ByteOut.took })) c.args.node c.args.slots.now
    c.loop-place.place _ (told_in c.loop-place.table) c.loop-place.links.items c.hear_keys.new.links.items c.in-Err.fault
    (search rules) (search rules) c.in-Err.ensures.heard)

pub returns-clause-heard : goal.returns-clause-heard
returns-clause-heard g c =
    c.loop-place.invariant.0 (Ok (told_in c.loop-place.table)) c.loop-place.links.items
    (all_heard (talk (record { gave = g.I.ByteIn.gave; took = g.O.ByteOut.took })) c.args.node c.args.slots.now
    c.loop-place.place (told_in c.loop-place.table) c.loop-place.links.items (search rules))
