use Rattle.std.proofs.Common.{◌≡◌, ℕ, vec_len}
use Rattle.server_settling.specs.Asking.{Sends}
use Rattle.server_settling.specs.Quieting.{Rounds}
use Rattle.server_settling.proofs.quieting.quiet.Given as goal

-- so many rounds without an end
abbrev pub invariant-loop : goal.invariant-loop
invariant-loop g l = (k : ℕ)
    × Rounds (Sends (record { gave = g.I.ByteIn.gave; took = g.O.ByteOut.took })) l.target l.host k l.initial.links.items l.seen.ended l.seen.is_quiet l.links.items
    × (vec_len l.links ≡ vec_len l.initial.links)
