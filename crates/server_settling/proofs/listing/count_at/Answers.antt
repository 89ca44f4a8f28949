use Rattle.std.proofs.Common.{Err, ap, inr, refl}
use Rattle.server_settling.specs.Stops.{stop_by}
use Rattle.server_settling.specs.declared.fault.SettleFault.TheVariants as fault
use Rattle.server_settling.proofs.listing.count_at.Goals as goal

pub returns-in_default-clause-counts : goal.returns-in_default-clause-counts
returns-in_default-clause-counts g c = (Err (stop_by fault.Memory), inr (refl, refl), ap (λ e. Err e) c.stop_by.ensures)
