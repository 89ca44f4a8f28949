use Rattle.std.proofs.Common.{◌≡◌, ◌∙◌, ◌==◌, ◌<◌, ◌++◌, ◌∷◌, [], ap, false, subst, sym, true}
use Rattle.std.specs.List.{All}
use Rattle.std.proofs.lemmas.List.Elements.{All-nil, All-push}
use Rattle.cluster_cli.proofs.Listing.{alike, differs, no_other, other_left, other_taken}
use Rattle.cluster_cli.proofs.node_lists.others.Goals as goal
use Rattle.cluster_cli.proofs.node_lists.others.Goals.{then-ne+in_ok-push, else-ne}

pub loop-number-init : goal.loop-number-init
loop-number-init c = record {
  found = c.new-found.ensures.items ∙ sym (no_other c.args.target);
  exist = subst (All (λ s. s < c.args.nodes)) (sym c.new-found.ensures.items) (All-nil (λ s. s < c.args.nodes));
}

pub loop-number-preserved : goal.loop-number-preserved
loop-number-preserved c = elim c.if-ne.branch [
  | then-ne+in_ok-push w ↦
      let grown : c.if-ne.found.items ≡ c.loop-number.found.items ++ c.loop-number.number ∷ [] =
      ap (λ v. v.items) w.found-is ∙ (w.in_ok-push.ensures.items ∙ ap (λ n. c.loop-number.found.items ++ n ∷ []) c.of-node.ensures) in
      let other : (c.loop-number.number == c.args.target) ≡ false =
      ap (λ n. n == c.args.target) (sym c.of-node.ensures) ∙ differs (c.of-node.result == c.args.target) c.ne.result c.ne.ensures w.if-ne.true in
      record {
        found = other_taken c.loop-number.number c.args.target c.loop-number.found.items c.if-ne.found.items c.loop-number.invariant.found other grown;
        exist = subst (All (λ s. s < c.args.nodes)) (sym grown) (All-push (λ s. s < c.args.nodes) c.loop-number.found.items c.loop-number.number c.loop-number.invariant.exist c.loop-number-test.true);
      }
  | else-ne w ↦
      let same : c.if-ne.found.items ≡ c.loop-number.found.items = ap (λ v. v.items) w.found-is in
      let target : (c.loop-number.number == c.args.target) ≡ true =
      ap (λ n. n == c.args.target) (sym c.of-node.ensures) ∙ alike (c.of-node.result == c.args.target) c.ne.result c.ne.ensures w.if-ne.false in
      record {
        found = other_left c.loop-number.number c.args.target c.loop-number.found.items c.if-ne.found.items c.loop-number.invariant.found target same;
        exist = subst (All (λ s. s < c.args.nodes)) (sym same) c.loop-number.invariant.exist;
      }
]
