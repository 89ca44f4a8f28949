use Rattle.std.proofs.Common.{◌+◌, length, refl}
use Rattle.shared_trail.proofs.Locally.{setting_done}
use Rattle.shared_trail.proofs.settings.set_locked.Goals as goal

pub record-requires-clause-local : goal.record-requires-clause-local
record-requires-clause-local g c =
    let w = g.B.ClusterBrand.setup.opening in
    setting_done w.base_port (length w.nodes) g.row.N (33 + g.row.N) c.args.node c.locked.inside.holder c.locked.inside.node c.set_thrice.new.node c.args.command c.args.command c.in_ok-answer.answer c.in_ok-answer.second
    c.locked.invariant.1 c.locked.invariant.0 c.requires.setting c.requires.node refl c.in_ok-answer.ensures.reply c.in_ok-answer.ensures.copies.0 c.in_ok-answer.ensures.ok
