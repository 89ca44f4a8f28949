use Rattle.std.proofs.Common.{rules, ◌≡◌, ◌∙◌, ◌<◌, ◌++◌, ◌∷◌, [], ap, false, subst, sym, true}
use Rattle.std.specs.List.{All}
use Rattle.std.proofs.lemmas.List.Elements.{All-nil, All-push}
use Rattle.cluster_cli.specs.DrainedNodes.{is_one}
use Rattle.cluster_cli.proofs.Draining.{left, none_yet, taken}
use Rattle.cluster_cli.proofs.drained_nodes.all_but.Goals as goal
use Rattle.cluster_cli.proofs.drained_nodes.all_but.Goals.{then-not-is_one+in_ok-push, else-not-is_one}

pub loop-number-init : goal.loop-number-init
loop-number-init c = record {
  found = c.new-found.ensures.items ∙ sym (none_yet c.args.sources.now);
  exist = subst (All (λ s. s < c.args.nodes)) (sym c.new-found.ensures.items) (All-nil (λ s. s < c.args.nodes));
}

pub loop-number-preserved : goal.loop-number-preserved
loop-number-preserved c = elim c.if-not-is_one.branch [
  | then-not-is_one+in_ok-push w ↦
      let grown : c.if-not-is_one.found.items ≡ c.loop-number.found.items ++ c.loop-number.number ∷ [] =
      ap (λ v. v.items) w.found-is
      ∙ (w.in_ok-push.ensures.items ∙ ap (λ n. c.loop-number.found.items ++ n ∷ []) c.of-node.ensures) in
      let other : is_one c.args.sources.now c.loop-number.number ≡ false = search rules in
      record {
        found = taken c.loop-number.number c.args.sources.now c.loop-number.found.items c.if-not-is_one.found.items
            c.loop-number.invariant.found other grown;
        exist = subst (All (λ s. s < c.args.nodes)) (sym grown)
            (All-push (λ s. s < c.args.nodes) c.loop-number.found.items c.loop-number.number
            c.loop-number.invariant.exist c.loop-number-test.true);
      }
  | else-not-is_one w ↦
      let same : c.if-not-is_one.found.items ≡ c.loop-number.found.items = ap (λ v. v.items) w.found-is in
      let source : is_one c.args.sources.now c.loop-number.number ≡ true = search rules in
      record {
        found = left c.loop-number.number c.args.sources.now c.loop-number.found.items c.if-not-is_one.found.items
            c.loop-number.invariant.found source same;
        exist = subst (All (λ s. s < c.args.nodes)) (sym same) c.loop-number.invariant.exist;
      }
]
