use Rattle.slot_key_counts.specs.Rounds.{talk}
use Rattle.slot_key_counts.proofs.Walked.{sent_some}
use Rattle.slot_key_counts.proofs.batches.send_batch.Goals as goal

pub returns-in-len1-up-clause-sent : goal.returns-in-len1-up-clause-sent
returns-in-len1-up-clause-sent g c =
    sent_some (talk (record { gave = g.I.ByteIn.gave; took = g.O.ByteOut.took })) c.args.node c.args.slots.now
    c.args.links.now.items c.send_all.new.links.items c.send_all.result c.in-len1-up.len_at_least c.send_all.ensures.sent
