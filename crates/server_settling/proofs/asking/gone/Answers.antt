use Rattle.std.proofs.Common.{◌∙◌, ap}
use Rattle.server_settling.specs.Asking.{stop_for}
use Rattle.server_settling.proofs.asking.gone.Goals as goal

pub returns : goal.returns
returns g c = (
  c.link_of-link.result.now,
  c.link_of-link.ensures,
  c.stop_for.ensures ∙ ap (λ f. stop_for c.args.node f) c.fault.ensures,
)
