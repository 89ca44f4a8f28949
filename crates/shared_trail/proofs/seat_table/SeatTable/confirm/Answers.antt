use Rattle.std.proofs.Common.{rules, ◌≡◌, ℕ, List, [], ◌∷◌, sym, ap, ◌∙◌, subst}
use mathlib.Core.Option.{some}
use lib.ListN.{get_elem?}
use Rattle.atomic_table.specs.Table.{Me}
use Rattle.atomic_table.specs.declared.badge.Badge.{Badge}
use Rattle.cluster_world.specs.declared.event.Event.{Event}
use Rattle.shared_trail.specs.declared.view.Part.{Part}
use Rattle.shared_trail.specs.declared.view.Ledger.{Ledger}
use Rattle.shared_trail.specs.declared.view.View.{View}
use Rattle.shared_trail.specs.Rule.{keeper, holder, ledger_of, part_in, together, left_of, right_of}
use Rattle.shared_trail.proofs.Keeps.{shows_as, joins_as, splits_as, seated}
use Rattle.shared_trail.proofs.seat_table.SeatTable.confirm.Goals as goal

pub join_seat-requires : goal.join_seat-requires
join_seat-requires g c =
    let seat = c.into_seat-other.ensures in
    let is = seated _ _ _ _ (ap (λ (b : Badge View). b.views) c.replace.ensures.value ∙ c.holder.invariant.1) seat.2 seat.3 in
    (search rules, search rules, seat.3, search rules, joins_as _ _ _ _ _ _ _ _ c.keeper.invariant.1 is)

pub load-requires : goal.load-requires
load-requires g c =
    let seat = c.into_seat-other.ensures in
    let is = seated _ _ _ _ (ap (λ (b : Badge View). b.views) c.replace.ensures.value ∙ c.holder.invariant.1) seat.2 seat.3 in
    let two = c.join_seat.ensures.2 ∙ (λ j. (together (c.keeper.invariant.1 j).0 (is j).0, (c.keeper.invariant.1 j).1)) in
    (search rules, search rules, shows_as _ _ _ _ _ _ _ two)

pub split_seat-pass-requires : goal.split_seat-pass-requires
split_seat-pass-requires g c =
    let seat = c.into_seat-other.ensures in
    let is = seated _ _ _ _ (ap (λ (b : Badge View). b.views) c.replace.ensures.value ∙ c.holder.invariant.1) seat.2 seat.3 in
    let two = c.join_seat.ensures.2 ∙ (λ j. (together (c.keeper.invariant.1 j).0 (is j).0, (c.keeper.invariant.1 j).1)) in
    (search rules, search rules, splits_as _ _ _ _ _ _ (c.load.ensures.2.0 ∙ two))

pub invariant_of-keeper : goal.invariant_of-keeper
invariant_of-keeper g c =
    let seat = c.into_seat-other.ensures in
    let is = seated _ _ _ _ (ap (λ (b : Badge View). b.views) c.replace.ensures.value ∙ c.holder.invariant.1) seat.2 seat.3 in
    let two = c.join_seat.ensures.2 ∙ (λ j. (together (c.keeper.invariant.1 j).0 (is j).0, (c.keeper.invariant.1 j).1)) in
    let cut = c.split_seat-pass.ensures.2 ∙ ap (λ (m : Me Event View). (left_of m.0, m.1)) (c.load.ensures.2.0 ∙ two) in
    (search rules, cut ∙ sym (ap (λ (m : Me Event View). (keeper (ledger_of m.0), [])) cut))

pub invariant_of-holder : goal.invariant_of-holder
invariant_of-holder g c =
    let seat = c.into_seat-other.ensures in
    let is = seated _ _ _ _ (ap (λ (b : Badge View). b.views) c.replace.ensures.value ∙ c.holder.invariant.1) seat.2 seat.3 in
    let two = c.join_seat.ensures.2 ∙ (λ j. (together (c.keeper.invariant.1 j).0 (is j).0, (c.keeper.invariant.1 j).1)) in
    let new = c.split_seat-pass.ensures.4 ∙ ap (λ (m : Me Event View). (right_of m.0, [])) (c.load.ensures.2.0 ∙ two) in
    let views = c.into_badge.ensures.2 ∙ ap (λ (m : Me Event View). m.0 ∷ []) new in
    (search rules, views ∙ sym (ap (λ (vs : List View). holder (part_in vs).0 (part_in vs).1 ∷ []) views))

pub returns-clause-keeper : goal.returns-clause-keeper
returns-clause-keeper g c =
    let seat = c.into_seat-other.ensures in
    let is = seated _ _ _ _ (ap (λ (b : Badge View). b.views) c.replace.ensures.value ∙ c.holder.invariant.1) seat.2 seat.3 in
    let two = c.join_seat.ensures.2 ∙ (λ j. (together (c.keeper.invariant.1 j).0 (is j).0, (c.keeper.invariant.1 j).1)) in
    let cut = c.split_seat-pass.ensures.2 ∙ ap (λ (m : Me Event View). (left_of m.0, m.1)) (c.load.ensures.2.0 ∙ two) in
    ap (λ (m : Me Event View). ledger_of m.0) cut ∙ c.keeper.view_is

pub returns-clause-holder : goal.returns-clause-holder
returns-clause-holder g c =
    let seat = c.into_seat-other.ensures in
    let is = seated _ _ _ _ (ap (λ (b : Badge View). b.views) c.replace.ensures.value ∙ c.holder.invariant.1) seat.2 seat.3 in
    let two = c.join_seat.ensures.2 ∙ (λ j. (together (c.keeper.invariant.1 j).0 (is j).0, (c.keeper.invariant.1 j).1)) in
    let new = c.split_seat-pass.ensures.4 ∙ ap (λ (m : Me Event View). (right_of m.0, [])) (c.load.ensures.2.0 ∙ two) in
    let views = c.into_badge.ensures.2 ∙ ap (λ (m : Me Event View). m.0 ∷ []) new in
    ap part_in views ∙ c.holder.view_is

pub returns-clause-part : goal.returns-clause-part
returns-clause-part g c =
    let seat = c.into_seat-other.ensures in
    let is = seated _ _ _ _ (ap (λ (b : Badge View). b.views) c.replace.ensures.value ∙ c.holder.invariant.1) seat.2 seat.3 in
    let two = c.join_seat.ensures.2 ∙ (λ j. (together (c.keeper.invariant.1 j).0 (is j).0, (c.keeper.invariant.1 j).1)) in
    subst (λ (y : Ledger × ℕ × Part). get_elem? y.0.parts y.1 ≡ some y.2) (λ j. (c.keeper.view_is j, (c.holder.view_is j).0, (c.holder.view_is j).1)) (c.load.ensures.2.1 _ _ _ two)
