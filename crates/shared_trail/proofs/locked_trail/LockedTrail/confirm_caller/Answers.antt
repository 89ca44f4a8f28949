use Rattle.std.proofs.Common.{sym, ap, ◌∙◌}
use Rattle.shared_trail.specs.Trails.{calls_of}
use Rattle.shared_trail.specs.TrailView.{TrailView}
use Rattle.shared_trail.proofs.Stages.{shown_caller}
use Rattle.shared_trail.proofs.locked_trail.LockedTrail.confirm_caller.Goals as goal

pub returns-clause-calls : goal.returns-clause-calls
returns-clause-calls g c =
    ap (λ (t : TrailView). calls_of c.args.maker.now.0 t.events) (sym c.self.view_is)
    ∙ shown_caller _ _ _ _ _ _ _ _ c.self.invariant.0 c.requires.maker c.requires.low c.confirm.ensures.part
