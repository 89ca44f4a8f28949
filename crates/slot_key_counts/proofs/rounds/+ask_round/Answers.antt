use Rattle.std.proofs.Common.{◌∙◌, ℕ, List, Ok, Err, arith, refl, subst, sym}
use Rattle.cluster_views.specs.declared.fault.SurveyFault.TheVariants as fault
use Rattle.slot_key_counts.specs.Questions.{wants}
use Rattle.slot_key_counts.specs.Rounds.{HearsBatch, IsRound, batch, talk}
use Rattle.slot_key_counts.specs.Tables.{told_in}
use Rattle.slot_key_counts.proofs.Walked.{no_memory, no_node, node_heard, not_sent, others_failed}
use Rattle.slot_key_counts.proofs.rounds.+ask_round.Goals as goal

pub returns-then-nodes-eq0-clause-asked : goal.returns-then-nodes-eq0-clause-asked
returns-then-nodes-eq0-clause-asked g t c = no_node (talk (record { gave = g.I.ByteIn.gave; took = g.O.ByteOut.took })) (λ n. batch (wants c.args.questions.now n) c.args.round 256)
    c.args.nodes (told_in c.args.table.now) c.args.links.now.items c.if-nodes-eq0.true

pub returns-in-Err-clause-asked : goal.returns-in-Err-clause-asked
returns-in-Err-clause-asked g t c = no_memory (talk (record { gave = g.I.ByteIn.gave; took = g.O.ByteOut.took })) (λ n. batch (wants c.args.questions.now n) c.args.round 256)
    c.args.nodes c.of-node.result (told_in c.args.table.now) c.args.links.now.items c.args.links.now.items fault.Memory (omega (arith, c.of-node.ensures, c.if-nodes-eq0.false)) refl refl

pub returns-in-Err-send_batch-clause-asked : goal.returns-in-Err-send_batch-clause-asked
returns-in-Err-send_batch-clause-asked g t c = not_sent (talk (record { gave = g.I.ByteIn.gave; took = g.O.ByteOut.took })) (λ n. batch (wants c.args.questions.now n) c.args.round 256)
    c.args.nodes c.of-node.result c.as_slice.result.now (told_in c.args.table.now) c.args.links.now.items c.send_batch.new.links.items
    c.in-Err-send_batch.fault (omega (arith, c.of-node.ensures, c.if-nodes-eq0.false)) (c.as_slice.ensures.value ∙ c.in-Ok.ensures) c.in-Err-send_batch.ensures.sent

pub returns-in-Err-ask_round-clause-asked : goal.returns-in-Err-ask_round-clause-asked
returns-in-Err-ask_round-clause-asked g t c = others_failed (talk (record { gave = g.I.ByteIn.gave; took = g.O.ByteOut.took })) (λ n. batch (wants c.args.questions.now n) c.args.round 256)
    c.args.nodes c.of-node.result c.as_slice.result.now (told_in c.args.table.now) c.args.links.now.items c.send_batch.new.links.items
    c.ask_round.new.links.items c.in-Err-ask_round.fault (omega (arith, c.of-node.ensures, c.if-nodes-eq0.false)) (c.as_slice.ensures.value ∙ c.in-Ok.ensures) c.in-Ok-send_batch.ensures.sent
    (subst (λ (x : ℕ). IsRound (talk (record { gave = g.I.ByteIn.gave; took = g.O.ByteOut.took })) (λ n. batch (wants c.args.questions.now n) c.args.round 256) x (told_in c.args.table.now)
    c.send_batch.new.links.items (Err c.in-Err-ask_round.fault) c.ask_round.new.links.items) (sym c.of-node.ensures) c.in-Err-ask_round.ensures.asked)

pub returns-in-Ok-hear_batch-clause-asked : goal.returns-in-Ok-hear_batch-clause-asked
returns-in-Ok-hear_batch-clause-asked g t c = node_heard (talk (record { gave = g.I.ByteIn.gave; took = g.O.ByteOut.took })) (λ n. batch (wants c.args.questions.now n) c.args.round 256)
    c.args.nodes c.of-node.result c.as_slice.result.now (told_in c.args.table.now) (told_in c.ask_round.new.table)
    c.args.links.now.items c.send_batch.new.links.items c.ask_round.new.links.items c.hear_batch.new.links.items (Ok (told_in c.hear_batch.new.table)) (omega (arith, c.of-node.ensures, c.if-nodes-eq0.false)) (c.as_slice.ensures.value ∙ c.in-Ok.ensures)
    c.in-Ok-send_batch.ensures.sent (subst (λ (x : ℕ). IsRound (talk (record { gave = g.I.ByteIn.gave; took = g.O.ByteOut.took })) (λ n. batch (wants c.args.questions.now n) c.args.round 256) x (told_in c.args.table.now)
    c.send_batch.new.links.items (Ok (told_in c.ask_round.new.table)) c.ask_round.new.links.items) (sym c.of-node.ensures) c.in-Ok-ask_round.ensures.asked)
    (subst (λ (x : List ℕ). HearsBatch (talk (record { gave = g.I.ByteIn.gave; took = g.O.ByteOut.took })) c.of-node.result x (told_in c.ask_round.new.table) c.ask_round.new.links.items (Ok (told_in c.hear_batch.new.table)) c.hear_batch.new.links.items) (c.as_slice-2.ensures.value ∙ sym c.as_slice.ensures.value) c.in-Ok-hear_batch.ensures.heard)

pub returns-clause-asked : goal.returns-clause-asked
returns-clause-asked g t c = node_heard (talk (record { gave = g.I.ByteIn.gave; took = g.O.ByteOut.took })) (λ n. batch (wants c.args.questions.now n) c.args.round 256)
    c.args.nodes c.of-node.result c.as_slice.result.now (told_in c.args.table.now) (told_in c.ask_round.new.table)
    c.args.links.now.items c.send_batch.new.links.items c.ask_round.new.links.items c.hear_batch.new.links.items (Err c.in-Err-hear_batch.fault) (omega (arith, c.of-node.ensures, c.if-nodes-eq0.false)) (c.as_slice.ensures.value ∙ c.in-Ok.ensures)
    c.in-Ok-send_batch.ensures.sent (subst (λ (x : ℕ). IsRound (talk (record { gave = g.I.ByteIn.gave; took = g.O.ByteOut.took })) (λ n. batch (wants c.args.questions.now n) c.args.round 256) x (told_in c.args.table.now)
    c.send_batch.new.links.items (Ok (told_in c.ask_round.new.table)) c.ask_round.new.links.items) (sym c.of-node.ensures) c.in-Ok-ask_round.ensures.asked)
    (subst (λ (x : List ℕ). HearsBatch (talk (record { gave = g.I.ByteIn.gave; took = g.O.ByteOut.took })) c.of-node.result x (told_in c.ask_round.new.table) c.ask_round.new.links.items (Err c.in-Err-hear_batch.fault) c.hear_batch.new.links.items) (c.as_slice-2.ensures.value ∙ sym c.as_slice.ensures.value) c.in-Err-hear_batch.ensures.heard)
