use Rattle.std.proofs.Common.{rules, List, [], ◌∷◌, sym, ap, ◌∙◌}
use mathlib.Core.Option.{some}
use Rattle.atomic_table.specs.Table.{Me}
use Rattle.cluster_world.specs.declared.event.Event.{Event}
use Rattle.shared_trail.specs.declared.view.Ledger.{Ledger}
use Rattle.shared_trail.specs.declared.view.View.{View}
use Rattle.shared_trail.specs.Rule.{keeper, holder, with_seat, ledger_of, part_in, left_of, right_of}
use Rattle.shared_trail.proofs.Keeps.{deals_as, splits_as, some_at}
use Rattle.shared_trail.proofs.seat_table.SeatTable.deal.Goals as goal

pub load-requires : goal.load-requires
load-requires g c =
    let next = some_at c.args.keeper.now.parts c.args.keeper.now.made c.requires.place in
    (search rules, search rules, deals_as _ _ _ _ _ next.0 c.keeper.invariant.1 (rw c.keeper.view_is c.requires.none) (rw c.keeper.view_is next.1))

pub split_seat-pass-requires : goal.split_seat-pass-requires
split_seat-pass-requires g c =
    let next = some_at c.args.keeper.now.parts c.args.keeper.now.made c.requires.place in
    let now = c.load.ensures.2 _ next.0 c.keeper.invariant.1 (rw c.keeper.view_is c.requires.none) (rw c.keeper.view_is next.1) in
    (search rules, search rules, splits_as _ _ _ _ _ _ now)

pub invariant_of-keeper : goal.invariant_of-keeper
invariant_of-keeper g c =
    let next = some_at c.args.keeper.now.parts c.args.keeper.now.made c.requires.place in
    let now = c.load.ensures.2 _ next.0 c.keeper.invariant.1 (rw c.keeper.view_is c.requires.none) (rw c.keeper.view_is next.1) in
    let cut = c.split_seat-pass.ensures.2 ∙ ap (λ (m : Me Event View). (left_of m.0, m.1)) now in
    (search rules, cut ∙ sym (ap (λ (m : Me Event View). (keeper (ledger_of m.0), [])) cut))

pub invariant_of-result : goal.invariant_of-result
invariant_of-result g c =
    let next = some_at c.args.keeper.now.parts c.args.keeper.now.made c.requires.place in
    let now = c.load.ensures.2 _ next.0 c.keeper.invariant.1 (rw c.keeper.view_is c.requires.none) (rw c.keeper.view_is next.1) in
    let new = c.split_seat-pass.ensures.4 ∙ ap (λ (m : Me Event View). (right_of m.0, [])) now in
    let views = c.into_badge.ensures.2 ∙ ap (λ (m : Me Event View). m.0 ∷ []) new in
    (search rules, views ∙ sym (ap (λ (vs : List View). holder (part_in vs).0 (part_in vs).1 ∷ []) views))

pub returns-clause-keeper : goal.returns-clause-keeper
returns-clause-keeper g c =
    let next = some_at c.args.keeper.now.parts c.args.keeper.now.made c.requires.place in
    let now = c.load.ensures.2 _ next.0 c.keeper.invariant.1 (rw c.keeper.view_is c.requires.none) (rw c.keeper.view_is next.1) in
    let cut = c.split_seat-pass.ensures.2 ∙ ap (λ (m : Me Event View). (left_of m.0, m.1)) now in
    ap (λ (m : Me Event View). ledger_of m.0) cut ∙ ap with_seat c.keeper.view_is

pub returns-clause-number : goal.returns-clause-number
returns-clause-number g c =
    let next = some_at c.args.keeper.now.parts c.args.keeper.now.made c.requires.place in
    let now = c.load.ensures.2 _ next.0 c.keeper.invariant.1 (rw c.keeper.view_is c.requires.none) (rw c.keeper.view_is next.1) in
    let new = c.split_seat-pass.ensures.4 ∙ ap (λ (m : Me Event View). (right_of m.0, [])) now in
    let views = c.into_badge.ensures.2 ∙ ap (λ (m : Me Event View). m.0 ∷ []) new in
    ap (λ (vs : List View). (part_in vs).0) views ∙ ap (λ (b : Ledger). b.made) c.keeper.view_is

pub returns-clause-part : goal.returns-clause-part
returns-clause-part g c =
    let next = some_at c.args.keeper.now.parts c.args.keeper.now.made c.requires.place in
    let now = c.load.ensures.2 _ next.0 c.keeper.invariant.1 (rw c.keeper.view_is c.requires.none) (rw c.keeper.view_is next.1) in
    let new = c.split_seat-pass.ensures.4 ∙ ap (λ (m : Me Event View). (right_of m.0, [])) now in
    let views = c.into_badge.ensures.2 ∙ ap (λ (m : Me Event View). m.0 ∷ []) new in
    next.1 ∙ ap some (sym (ap (λ (vs : List View). (part_in vs).1) views))
