use Rattle.std.proofs.Common.{◌≡◌}
use Rattle.std.specs.Prelude.{Ok, vec_len}
use Rattle.slot_key_counts.specs.Questions.{wants}
use Rattle.slot_key_counts.specs.Rounds.{AreRounds, nothing, talk}
use Rattle.slot_key_counts.specs.Tables.{told_in}
use Rattle.slot_key_counts.proofs.rounds.ask_all.Given as goal

-- the rounds before were asked
abbrev pub invariant-loop-round : goal.invariant-loop-round
invariant-loop-round g l =
    AreRounds (talk (record { gave = g.I.ByteIn.gave; took = g.O.ByteOut.took })) (wants l.questions) l.nodes l.round nothing l.fn.links.items
    (Ok (told_in l.table)) l.links.items
    × (l.table.nodes ≡ vec_len l.links) × (vec_len l.links ≡ l.nodes)
