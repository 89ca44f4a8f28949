use Rattle.std.proofs.Common.{rules, ◌∙◌, ◌≡◌, ◌<◌, ◌≤◌, length, sym}
use Rattle.std.specs.Prelude.{IfSome}
use Rattle.std.proofs.lemmas.List.{length-set}
use Rattle.std.proofs.lemmas.List.Elements.{All-set}
use Rattle.cluster_cli.proofs.Weighing.{ends, goes_on, stops_at_none, stops_at_second}
use Rattle.cluster_cli.proofs.weights_by_name.row_of.Goals as goal

pub returns-in_default-clause-row : goal.returns-in_default-clause-row
returns-in_default-clause-row c =
    stops_at_none c.args.nodes c.loop-item.row.items c.args.items.now c.loop-item.item-index _ c.loop-item.invariant.row _ c.loop-item-test.true
    (sym c.item_of.ensures.value ∙ c.in_default.is)

pub returns-then-is_some-clause-row : goal.returns-then-is_some-clause-row
returns-then-is_some-clause-row c =
    let there : c.in-Some.node < length c.loop-item.row.items = search rules in
    let at : c.from-place.result ≡ c.in-Some.node = search rules in
    stops_at_second c.args.nodes c.loop-item.row.items c.args.items.now c.loop-item.item-index _ c.loop-item.invariant.row _ c.in-Some.node c.in-Some.weight
    c.from-place.result c.index.result.now c.loop-item-test.true (sym c.item_of.ensures.value ∙ c.in-Some.is)
    at there c.index.ensures (sym c.is_some.ensures ∙ c.if-is_some.true)

pub loop-item-preserved : goal.loop-item-preserved
loop-item-preserved c =
    let there : c.in-Some.node < length c.loop-item.row.items = search rules in
    let at : c.from-place.result ≡ c.in-Some.node = search rules in
    record {
      row =
          goes_on c.args.nodes c.loop-item.row.items c.args.items.now c.loop-item.item-index _ c.loop-item.invariant.row _ c.in-Some.node c.in-Some.weight
          c.from-place.result c.index.result.now c.loop-item-test.true (sym c.item_of.ensures.value ∙ c.in-Some.is)
          at there c.index.ensures _ (search rules) (sym c.is_some.ensures ∙ c.if-is_some.false);
      one_each = length-set c.loop-item.row.items c.from-place.result _ ∙ c.loop-item.invariant.one_each;
      light = All-set (λ w. IfSome w (λ x. x ≤ 1000)) c.loop-item.row.items c.from-place.result _ (search rules) c.loop-item.invariant.light;
    }

pub returns-clause-row : goal.returns-clause-row
returns-clause-row c =
    ends c.args.nodes c.loop-item.row.items c.args.items.now c.loop-item.item-index _ c.loop-item.invariant.row c.loop-item-test.false
