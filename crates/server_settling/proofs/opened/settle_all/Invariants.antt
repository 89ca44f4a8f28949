use Rattle.std.proofs.Common.{◌≡◌, ◌≤◌}
use Rattle.std.specs.Prelude.{vec_len}
use Rattle.server_settling.specs.Asking.{Sends}
use Rattle.server_settling.specs.Opened.{SettlesBelow, Writes}
use Rattle.server_settling.proofs.opened.settle_all.Given as goal

-- the slots below this one are settled
abbrev pub invariant-loop-number : goal.invariant-loop-number
invariant-loop-number g l =
    SettlesBelow (Sends (record { gave = g.I.ByteIn.gave; took = g.O.ByteOut.took })) (Writes g.E.ByteOut.took g.E.ByteOut.failures) l.setup l.survey l.number
    l.initial.links.items l.initial.errors l.opened l.links.items l.errors
    × (l.opened.slots ≤ l.number) × (l.opened.told ≤ l.number) × (vec_len l.links ≡ vec_len l.initial.links)
