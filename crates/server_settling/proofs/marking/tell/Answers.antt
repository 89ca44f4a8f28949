use Rattle.std.proofs.Common.{Err, ap, inr, refl}
use Rattle.server_settling.proofs.marking.tell.Goals as goal

pub returns-in_default-clause-asked : goal.returns-in_default-clause-asked
returns-in_default-clause-asked g c = inr (ap (λ e. Err e) c.stop_by.ensures, refl)
