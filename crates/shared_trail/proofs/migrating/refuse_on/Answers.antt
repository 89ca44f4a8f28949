use Rattle.std.proofs.Common.{◌∙◌, length, arith, sym}
use Rattle.shared_trail.specs.Local.{calls_in}
use Rattle.shared_trail.specs.declared.view.Part.TheVariants.{Calls}
use Rattle.shared_trail.proofs.Locally.{refused_local}
use Rattle.shared_trail.proofs.migrating.refuse_on.Goals as goal

pub note-requires : goal.note-requires
note-requires g c =
    let w = g.B.ClusterBrand.setup.opening in
    let local = refused_local w.base_port (length w.nodes) g.row.N c.args.from c.args.locked.now.node c.in_ok-copy.copy c.args.to c.args.fault c.requires.place c.requires.fault in
    let holds = c.seat.invariant ∙ (λ i. (32, Calls (calls_in (sym c.seat.invariant i).1))) in
    (omega arith, (local, (tt, holds)))
