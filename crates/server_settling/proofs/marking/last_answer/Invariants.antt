use Rattle.std.proofs.Common.{◌≡◌, vec_len}
use Rattle.server_settling.specs.Asking.{Sends}
use Rattle.server_settling.specs.Marking.{SlowAnswers}
use Rattle.server_settling.proofs.marking.last_answer.Given as goal

-- as many slow answers as turns
abbrev pub invariant-loop-again : goal.invariant-loop-again
invariant-loop-again g l = SlowAnswers (Sends (record { gave = g.I.ByteIn.gave; took = g.O.ByteOut.took })) l.setup l.open
    l._again l.initial.links.items l.links.items
    × (vec_len l.links ≡ vec_len l.initial.links)
