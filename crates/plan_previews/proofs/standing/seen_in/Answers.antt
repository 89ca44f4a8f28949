use Rattle.std.proofs.Common.{◌≡◌, ◌<◌, ◌∙◌, ap, length, subst, sym}
use Rattle.std.specs.List.{All}
use Rattle.cluster_inspection.specs.Starts.{owners_told}
use Rattle.cluster_inspection.proofs.CleanOwners.{told_at}
use Rattle.key_slots.specs.Owners.{Owners}
use Rattle.plan_outlines.specs.Changes.{change_ranges}
use Rattle.plan_outlines.specs.Nodes.{changes_of_nodes}
use Rattle.plan_drawings.specs.Now.{now_text}
use Rattle.plan_previews.proofs.standing.seen_in.Goals as goal

pub owners_before-requires : goal.owners_before-requires
owners_before-requires c = c.nodes-nodes-2.ensures.width

pub picture_of-requires-clause-width : goal.picture_of-requires-clause-width
picture_of-requires-clause-width c = ap length (c.as_slice.ensures.value ∙ c.in_ok-owners.ensures) ∙ c.nodes-nodes-2.ensures.width

pub picture_of-requires-clause-named : goal.picture_of-requires-clause-named
picture_of-requires-clause-named c =
    subst (All (λ n. n < c.nodes-nodes-2.result)) (sym (c.as_slice.ensures.value ∙ c.in_ok-owners.ensures))
    (subst (λ k. All (λ n. n < k) c.owners-table.result.now.owners) (sym c.nodes-nodes-2.ensures.value) c.nodes-nodes-2.ensures.named)

pub returns : goal.returns
returns c =
    let v = c.args.survey.now in
    let told : c.owners-table.result.now ≡ owners_told v = told_at v c.of.result c.owners-table.result.now c.owners-table.ensures c.of.ensures in
    let same = c.as_slice.ensures.value ∙ (c.in_ok-owners.ensures ∙ ap (λ (o : Owners). o.owners) told) in
    let nodes = c.nodes-nodes-2.ensures.value ∙ ap (λ (o : Owners). o.nodes) told in
    record {
      picture = (
        c.in_ok-slots.slots.items,
        c.in_ok-slots.ensures,
        c.in_ok-picture.ensures
            ∙ (λ i. now_text (change_ranges (same i) (same i)) (changes_of_nodes (nodes i) (same i) (same i)) (c.as_slice-2.ensures.value i)),
      );
      strange = c.in_ok-strange.ensures;
    }
