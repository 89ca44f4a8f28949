use Rattle.std.proofs.Common.{rules, ◌≡◌, ℕ, [], false, sym, ap, ◌∙◌, subst}
use mathlib.Core.Option.{some}
use lib.ListN.{get_elem?}
use Rattle.atomic_table.specs.Table.{Me}
use Rattle.cluster_world.specs.declared.event.Event.{Event}
use Rattle.shared_trail.specs.declared.view.Part.{Part}
use Rattle.shared_trail.specs.declared.view.Ledger.{Ledger}
use Rattle.shared_trail.specs.declared.view.View.{View}
use Rattle.shared_trail.specs.Rule.{keeper, without_seat, ledger_of, together}
use Rattle.shared_trail.specs.Trails.{among}
use Rattle.shared_trail.proofs.Keeps.{settles_as, joins_as, seated}
use Rattle.shared_trail.proofs.seat_table.SeatTable.settle.Goals as goal

pub join_seat-requires : goal.join_seat-requires
join_seat-requires g c =
    let seat = c.into_seat-other.ensures in
    let is = seated _ _ _ _ c.holder.invariant.1 seat.2 seat.3 in
    (search rules, search rules, seat.3, search rules, joins_as _ _ _ _ _ _ _ _ c.keeper.invariant.1 is)

pub load-requires : goal.load-requires
load-requires g c =
    let seat = c.into_seat-other.ensures in
    let is = seated _ _ _ _ c.holder.invariant.1 seat.2 seat.3 in
    let two = c.join_seat.ensures.2 ∙ (λ j. (together (c.keeper.invariant.1 j).0 (is j).0, (c.keeper.invariant.1 j).1)) in
    (search rules, search rules, settles_as _ _ _ _ _ _ _ two)

pub invariant_of-keeper : goal.invariant_of-keeper
invariant_of-keeper g c =
    let seat = c.into_seat-other.ensures in
    let is = seated _ _ _ _ c.holder.invariant.1 seat.2 seat.3 in
    let two = c.join_seat.ensures.2 ∙ (λ j. (together (c.keeper.invariant.1 j).0 (is j).0, (c.keeper.invariant.1 j).1)) in
    let now = c.load.ensures.2 _ _ _ two in
    (search rules, now.2 ∙ sym (ap (λ (m : Me Event View). (keeper (ledger_of m.0), [])) now.2))

pub returns-clause-ledger : goal.returns-clause-ledger
returns-clause-ledger g c =
    let seat = c.into_seat-other.ensures in
    let is = seated _ _ _ _ c.holder.invariant.1 seat.2 seat.3 in
    let two = c.join_seat.ensures.2 ∙ (λ j. (together (c.keeper.invariant.1 j).0 (is j).0, (c.keeper.invariant.1 j).1)) in
    let now = c.load.ensures.2 _ _ _ two in
    ap (λ (m : Me Event View). ledger_of m.0) now.2 ∙ (λ j. without_seat (c.holder.view_is j).0 (c.keeper.view_is j))

pub returns-clause-part : goal.returns-clause-part
returns-clause-part g c =
    let seat = c.into_seat-other.ensures in
    let is = seated _ _ _ _ c.holder.invariant.1 seat.2 seat.3 in
    let two = c.join_seat.ensures.2 ∙ (λ j. (together (c.keeper.invariant.1 j).0 (is j).0, (c.keeper.invariant.1 j).1)) in
    subst (λ (y : Ledger × ℕ × Part). get_elem? y.0.parts y.1 ≡ some y.2) (λ j. (c.keeper.view_is j, (c.holder.view_is j).0, (c.holder.view_is j).1)) (c.load.ensures.2 _ _ _ two).0

pub returns-clause-first : goal.returns-clause-first
returns-clause-first g c =
    let seat = c.into_seat-other.ensures in
    let is = seated _ _ _ _ c.holder.invariant.1 seat.2 seat.3 in
    let two = c.join_seat.ensures.2 ∙ (λ j. (together (c.keeper.invariant.1 j).0 (is j).0, (c.keeper.invariant.1 j).1)) in
    subst (λ (y : Ledger × ℕ). among y.1 y.0.gone ≡ false) (λ j. (c.keeper.view_is j, (c.holder.view_is j).0)) (c.load.ensures.2 _ _ _ two).1
