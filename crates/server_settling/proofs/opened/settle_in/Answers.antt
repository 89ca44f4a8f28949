use Rattle.std.proofs.Common.{subst, sym}
use Rattle.server_phases.specs.declared.server_phase.ServerPhase.{ServerPhase}
use Rattle.server_settling.specs.Asking.{Sends}
use Rattle.server_settling.specs.Opened.{Treats, Writes}
use Rattle.server_settling.proofs.opened.settle_in.Goals as goal

pub returns-in-Migrating-clause-treats : goal.returns-in-Migrating-clause-treats
returns-in-Migrating-clause-treats g c =
    subst (λ (p : ServerPhase). Treats (Sends (record { gave = g.I.ByteIn.gave; took = g.O.ByteOut.took })) (Writes g.E.ByteOut.took g.E.ByteOut.failures) c.args.setup.now
    c.args.slot p c.args.links.now.items c.args.errors.now c.settle_one.result c.settle_one.new.links.items c.settle_one.new.errors)
    (sym c.in-Migrating.is) c.settle_one.ensures.settles
