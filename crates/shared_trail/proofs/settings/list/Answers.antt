use Rattle.std.proofs.Common.{◌∙◌, length, arith, sym}
use Rattle.shared_trail.specs.Local.{calls_in}
use Rattle.shared_trail.specs.declared.view.Part.TheVariants.{Calls}
use Rattle.shared_trail.proofs.Locally.{listing_local}
use Rattle.shared_trail.proofs.settings.list.Goals as goal

pub note-requires : goal.note-requires
note-requires g c =
    let w = g.B.ClusterBrand.setup.opening in
    let told = c.in_ok-answer.ensures in
    let local = listing_local w.base_port (length w.nodes) g.row.N c.args.node c.locked.inside.node c.list_thrice.new.node c.args.slot c.args.count c.in_ok-answer.answer c.in_ok-answer.second
    c.locked.invariant.1 told.same c.requires.node told.reply told.copies.0 in
    let holds = c.requires.maker ∙ (λ i. (32, Calls (calls_in (sym c.requires.maker i).1))) in
    (omega arith, (local, (tt, holds)))
