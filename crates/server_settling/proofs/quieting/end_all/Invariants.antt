use Rattle.std.proofs.Common.{◌≡◌, List, length, vec_len}
use Rattle.std.specs.Prelude.{Result}
use Rattle.server_links.specs.declared.link.Link as link
use Rattle.server_settling.specs.Asking.{Each, Sends}
use Rattle.server_settling.specs.Quieting.{Ends}
use Rattle.server_settling.specs.declared.stop.SettleStop.{SettleStop}
use Rattle.server_settling.proofs.quieting.end_all.Given as goal

-- what becomes of those that are left becomes of all
abbrev pub invariant-loop-rest : goal.invariant-loop-rest
invariant-loop-rest g l =
    ((r : Result (Unit {0}) SettleStop) (links' : List (link.Link g.row.I.Denot g.row.O.Denot))
    → Each (Ends (Sends (record { gave = g.I.ByteIn.gave; took = g.O.ByteOut.took })) l.target) l.rest l.links.items r links'
    → Each (Ends (Sends (record { gave = g.I.ByteIn.gave; took = g.O.ByteOut.took })) l.target) l.ids l.initial.links.items r links')
    × (vec_len l.links ≡ vec_len l.initial.links)

abbrev pub decreases-loop-rest : goal.decreases-loop-rest
decreases-loop-rest g l = length l.rest
