use Rattle.std.proofs.Common.{◌≡◌, ◌<◌, ℕ, List, Option, None, Some, is_none, length, get_or, inr, subst, sym, ap, ◌∙◌}
use Rattle.std.proofs.Common.{position}
use Rattle.std.specs.Option.{IsSomeAnd, option_map, option_or}
use Rattle.std.specs.List.{All}
use Rattle.key_slots.specs.Owners.{Owners}
use Rattle.cluster_views.specs.Numbers.{first_given}
use Rattle.cluster_views.specs.Views.{Says, imports, migrates, uncovered_fault, view_fault}
use Rattle.cluster_views.specs.declared.fault.SurveyFault.TheVariants as fault
use Rattle.cluster_views.proofs.Covering.{all_owned, uncovered_is}
use Rattle.cluster_views.proofs.view.row_of_view.Goals as goal

pub returns-in-Some-first_without : goal.returns-in-Some-first_without
returns-in-Some-first_without c =
    let b = c.args.book.now in
    let ls = c.args.lines.now in
    let row = c.in_ok-owners.owners.items in
    let says : Says b ls row = c.in_ok-owners.ensures in
    let found : position is_none row ≡ Some c.in-Some-first_without.slot =
    ap (position is_none) (sym c.as_slice.ensures.value) ∙ sym c.first_without.ensures ∙ c.in-Some-first_without.is in
    inr (
    ap (λ o. option_or o (uncovered_fault b c.args.node ls)) (sym c.in_ok-plain.ensures ∙ c.in_default.is)
    ∙ uncovered_is b c.args.node ls row says
    ∙ ap (option_map (λ s. fault.Uncovered c.args.node s)) found)

pub table_of-requires-clause-named : goal.table_of-requires-clause-named
table_of-requires-clause-named c s lt =
    let b = c.args.book.now in
    let ls = c.args.lines.now in
    let row = c.in_ok-owners.owners.items in
    let says : Says b ls row = c.in_ok-owners.ensures in
    let none : position is_none row ≡ None =
    ap (position is_none) (sym c.as_slice.ensures.value) ∙ sym c.first_without.ensures ∙ c.in_default-first_without.is in
    subst (λ (xs : List (Option ℕ)). IsSomeAnd (get_or xs s None) (λ m. m < c.nodes.result)) (sym c.as_slice-2.ensures.value)
    (subst (λ k. IsSomeAnd (get_or row s None) (λ m. m < k)) (sym c.nodes.ensures.value) (all_owned b ls row says none s lt))

pub returns : goal.returns
returns c =
    let b = c.args.book.now in
    let ls = c.args.lines.now in
    let row = c.in_ok-owners.owners.items in
    let t = c.in_ok-table.table in
    let r = c.in_ok-row_with.ensures in
    let says : Says b ls row = c.in_ok-owners.ensures in
    let none : position is_none row ≡ None =
    ap (position is_none) (sym c.as_slice.ensures.value) ∙ sym c.first_without.ensures ∙ c.in_default-first_without.is in
    let fine : view_fault b c.args.node ls ≡ None =
    ap (λ o. option_or o (uncovered_fault b c.args.node ls)) (sym c.in_ok-plain.ensures ∙ c.in_default.is)
    ∙ uncovered_is b c.args.node ls row says
    ∙ ap (option_map (λ s. fault.Uncovered c.args.node s)) none in
    let count : t.nodes ≡ length b = c.in_ok-table.ensures.nodes ∙ c.nodes.ensures.value in
    let width : length t.owners ≡ 16384 = c.nodes-nodes.ensures.width in
    let same : c.in_ok-row_with.field-0.owners ≡ t = r.owners in (
      fine,
      record {
        width = ap (λ (o : Owners). length o.owners) same ∙ width;
        owners = λ s lt.
            sym (says.owners s lt)
            ∙ ap (λ (xs : List (Option ℕ)). get_or xs s None) (sym c.as_slice-2.ensures.value)
            ∙ c.in_ok-table.ensures.owners s lt
            ∙ ap (λ (o : Owners). Some (get_or o.owners s 0)) (sym same);
        migrating = λ s lt. r.migrating s lt ∙ ap (first_given (migrates b s)) c.own_words.ensures;
        importing = λ s lt. r.importing s lt ∙ ap (first_given (imports b s)) c.own_words.ensures;
        migrating_slots = r.migrating_slots;
        importing_slots = r.importing_slots;
      },
      record {
        nodes = ap (λ (o : Owners). o.nodes) same ∙ count;
        width = ap (λ (o : Owners). length o.owners) same ∙ width;
        named = subst (λ (o : Owners). All (λ m. m < length b) o.owners) (sym same)
            (subst (λ k. All (λ m. m < k) t.owners) count c.nodes-nodes.ensures.named);
        migrating = r.migrating_slots;
        importing = r.importing_slots;
        going = r.going;
        coming = r.coming;
      },
    )
