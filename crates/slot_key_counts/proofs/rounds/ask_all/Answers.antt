use Rattle.std.proofs.Common.{◌∙◌, Ok, arith, refl, subst, sym}
use Rattle.slot_key_counts.specs.Questions.{wants}
use Rattle.slot_key_counts.specs.Rounds.{AreRounds, Told, nothing, talk}
use Rattle.slot_key_counts.specs.Tables.{told_in}
use Rattle.slot_key_counts.proofs.Walked.{no_round, one_round, round_failed}
use Rattle.slot_key_counts.proofs.rounds.ask_all.Goals as goal

pub loop-round-init : goal.loop-round-init
loop-round-init g c = (
  subst
      (λ (t : Told). AreRounds (talk (record { gave = g.I.ByteIn.gave; took = g.O.ByteOut.took })) (wants c.args.questions.now)
      c.args.nodes 0 nothing c.args.links.now.items (Ok t) c.args.links.now.items)
      (sym c.in_ok-table.ensures.told)
      (no_round (talk (record { gave = g.I.ByteIn.gave; took = g.O.ByteOut.took })) (wants c.args.questions.now) c.args.nodes
      nothing c.args.links.now.items),
  omega (arith, c.in_ok-table.ensures.nodes, c.from.ensures),
  omega arith,
)

pub loop-round-preserved : goal.loop-round-preserved
loop-round-preserved g c = (
  one_round (talk (record { gave = g.I.ByteIn.gave; took = g.O.ByteOut.took })) (wants c.args.questions.now) c.args.nodes
      c.loop-round.round nothing (told_in c.loop-round.table) c.args.links.now.items c.loop-round.links.items
      c.ask_round.new.links.items (Ok (told_in c.ask_round.new.table)) c.loop-round.invariant.0 c.in-Ok.ensures.asked,
  c.in-Ok.ensures.table ∙ c.loop-round.invariant.1 ∙ sym c.in-Ok.ensures.count,
  c.in-Ok.ensures.count ∙ c.loop-round.invariant.2,
)

pub returns-in-Err-clause-asked : goal.returns-in-Err-clause-asked
returns-in-Err-clause-asked g c =
    round_failed (talk (record { gave = g.I.ByteIn.gave; took = g.O.ByteOut.took })) (wants c.args.questions.now)
    c.args.nodes c.loop-round.round nothing (told_in c.loop-round.table) c.args.links.now.items c.loop-round.links.items
    c.ask_round.new.links.items c.in-Err.fault refl (omega arith) c.loop-round.invariant.0 c.in-Err.ensures.asked
