use Rattle.std.proofs.Common.{◌≡◌, ◌<◌, ℕ, List, Option, None, is_none, get_or, inr, refl, subst, sym, ap, ◌∙◌}
use Rattle.std.proofs.Common.{position}
use Rattle.std.specs.Option.{IsSomeAnd}
use Rattle.survey_files.specs.Covering.{AreOwners}
use Rattle.survey_files.proofs.Covered.{all_owned, some_node, uncovered_is}
use Rattle.survey_files.proofs.covering.covered.Goals as goal

pub returns-in-Some-clause-covered : goal.returns-in-Some-clause-covered
returns-in-Some-clause-covered c =
    let rs = c.args.ranges.now in
    let row = c.in_ok-row.row.items in
    let are : AreOwners rs row = c.in_ok-row.ensures in
    inr (
      c.in-Some.slot,
      refl,
      are.apart,
      uncovered_is rs row are ∙ ap (position is_none) (sym c.as_slice.ensures.value) ∙ sym c.first_without.ensures
          ∙ c.in-Some.is,
    )

pub table_of-requires-clause-some : goal.table_of-requires-clause-some
table_of-requires-clause-some c =
    let rs = c.args.ranges.now in
    let row = c.in_ok-row.row.items in
    let none : position is_none row ≡ None =
    ap (position is_none) (sym c.as_slice.ensures.value) ∙ sym c.first_without.ensures ∙ c.in_default.is in
    some_node c.args.nodes rs row c.in_ok-row.ensures c.requires.named none

pub table_of-requires-clause-named : goal.table_of-requires-clause-named
table_of-requires-clause-named c s lt =
    let rs = c.args.ranges.now in
    let row = c.in_ok-row.row.items in
    let none : position is_none row ≡ None =
    ap (position is_none) (sym c.as_slice.ensures.value) ∙ sym c.first_without.ensures ∙ c.in_default.is in
    subst (λ (xs : List (Option ℕ)). IsSomeAnd (get_or xs s None) (λ m. m < c.args.nodes)) (sym c.as_slice-2.ensures.value)
    (all_owned c.args.nodes rs row c.in_ok-row.ensures c.requires.named none s lt)

pub returns-clause-covered : goal.returns-clause-covered
returns-clause-covered c =
    let rs = c.args.ranges.now in
    let row = c.in_ok-row.row.items in
    let are : AreOwners rs row = c.in_ok-row.ensures in
    record {
      nodes = c.in_ok-owners.ensures.nodes;
      apart = are.apart;
      owners = λ s lt.
          sym (are.owners s lt)
          ∙ ap (λ (xs : List (Option ℕ)). get_or xs s None) (sym c.as_slice-2.ensures.value)
          ∙ c.in_ok-owners.ensures.owners s lt;
    }

pub returns-clause-some : goal.returns-clause-some
returns-clause-some c =
    let rs = c.args.ranges.now in
    let row = c.in_ok-row.row.items in
    let none : position is_none row ≡ None =
    ap (position is_none) (sym c.as_slice.ensures.value) ∙ sym c.first_without.ensures ∙ c.in_default.is in
    some_node c.args.nodes rs row c.in_ok-row.ensures c.requires.named none
