use Rattle.std.proofs.Common.{rules, [], refl, sym, ap, ◌∙◌}
use Rattle.atomic_table.specs.Table.{Me}
use Rattle.cluster_world.specs.declared.event.Event.{Event}
use Rattle.shared_trail.specs.declared.view.View.{View}
use Rattle.shared_trail.specs.Rule.{keeper, with_flight, ledger_of}
use Rattle.shared_trail.proofs.Keeps.{begins_as}
use Rattle.shared_trail.proofs.seat_table.SeatTable.begin.Goals as goal

pub compare_exchange_with-requires : goal.compare_exchange_with-requires
compare_exchange_with-requires g c = (search rules, search rules, begins_as _ _ _ _ _ _ c.keeper.invariant.1)

pub invariant_of-keeper : goal.invariant_of-keeper
invariant_of-keeper g c =
    let now = c.compare_exchange_with.ensures.2 _ _ c.keeper.invariant.1 refl in
    (search rules, now ∙ sym (ap (λ (m : Me Event View). (keeper (ledger_of m.0), [])) now))

pub returns : goal.returns
returns g c =
    let now = c.compare_exchange_with.ensures.2 _ _ c.keeper.invariant.1 refl in
    ap (λ (m : Me Event View). ledger_of m.0) now ∙ ap (with_flight c.args.event.now) c.keeper.view_is
