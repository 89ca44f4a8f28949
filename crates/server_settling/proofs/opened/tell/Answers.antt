use Rattle.std.proofs.Common.{◌∙◌, List, ℕ, subst}
use Rattle.server_settling.specs.Opened.{Writes}
use Rattle.server_settling.proofs.opened.tell.Goals as goal

pub returns-in-Ok : goal.returns-in-Ok
returns-in-Ok g c =
    subst (λ (t : List ℕ). Writes g.E.ByteOut.took g.E.ByteOut.failures t c.args.errors.now c.write_line.new.errors)
    (c.as_slice.ensures.value ∙ c.in-Ok.ensures) c.write_line.ensures
