use Rattle.std.proofs.Common.{rules, [], sym, ap, ◌∙◌}
use Rattle.atomic_table.specs.Table.{Me}
use Rattle.cluster_world.specs.declared.event.Event.{Event}
use Rattle.shared_trail.specs.declared.view.View.{View}
use Rattle.shared_trail.specs.Rule.{keeper, with_event, ledger_of}
use Rattle.shared_trail.proofs.Keeps.{ends_as}
use Rattle.shared_trail.proofs.seat_table.SeatTable.end.Goals as goal

pub load-requires : goal.load-requires
load-requires g c = (search rules, search rules, ends_as _ _ _ _ _ c.args.event.now c.keeper.invariant.1 (rw c.keeper.view_is c.requires.flight) (rw (c.args.self.now.keyed, c.keeper.view_is) c.requires.sound))

pub invariant_of-keeper : goal.invariant_of-keeper
invariant_of-keeper g c =
    let now = c.load.ensures.2 _ c.args.event.now c.keeper.invariant.1 (rw c.keeper.view_is c.requires.flight) in
    (search rules, now ∙ sym (ap (λ (m : Me Event View). (keeper (ledger_of m.0), [])) now))

pub returns : goal.returns
returns g c =
    let now = c.load.ensures.2 _ c.args.event.now c.keeper.invariant.1 (rw c.keeper.view_is c.requires.flight) in
    ap (λ (m : Me Event View). ledger_of m.0) now ∙ ap (with_event c.args.event.now) c.keeper.view_is
