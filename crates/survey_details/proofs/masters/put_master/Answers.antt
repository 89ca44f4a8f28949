use Rattle.survey_details.specs.Asking.{telling_of}
use Rattle.survey_details.proofs.MasterTexts.{master_put}
use Rattle.survey_details.proofs.masters.put_master.Goals as goal

pub returns-clause-told : goal.returns-clause-told
returns-clause-told g c =
    let keys = c.in_ok-put_keys.ensures.told in
    master_put (telling_of (record { gave = g.I.ByteIn.gave; took = g.O.ByteOut.took }) c.args.book.now) c.args.details
    c.args.book.now c.args.survey.now c.args.node c.args.out.now.items c.put_node_line.new.out.items
    c.put_slots.new.out.items c.put_keys.new.out.items c.put_replicas.new.out.items keys.0
    c.in_ok-put_node_line.ensures c.in_ok-put_slots.ensures keys.1 keys.2 c.in_ok-put_replicas.ensures.told
