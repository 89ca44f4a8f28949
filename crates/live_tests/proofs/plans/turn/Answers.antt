use Rattle.std.proofs.Common.{◌≡◌, sym, subst}
use Rattle.cluster_admin.specs.declared.port_fault.PortFault.TheVariants.{Memory}
use Rattle.live_tests.specs.Sittings.{Continues}
use Rattle.live_tests.proofs.Sitting.{turn_continues}
use Rattle.live_tests.proofs.plans.turn.Goals as goal

pub returns-in-Running-clause-continues : goal.returns-in-Running-clause-continues
returns-in-Running-clause-continues g c =
    subst (λ t. Continues t c.advance.result) (sym c.in-Running.is)
    (turn_continues (record { moves = λ _ _ _. Unit {0}; fails = λ _ _ _ f _. f ≡ Memory }) (record { cluster = c.args.cluster; rt = c.args.rt })
    c.advance.new.port c.in-Running.plan c.advance.result c.advance.ensures.sends)
