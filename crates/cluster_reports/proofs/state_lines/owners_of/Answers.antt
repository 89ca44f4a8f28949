use Rattle.std.proofs.Common.{ap, ◌∙◌, arith}
use Rattle.std.specs.List.{list_any}
use Rattle.cluster_reports.proofs.Owning.{is_of, one_owner}
use Rattle.cluster_reports.proofs.state_lines.owners_of.Goals as goal

pub loop-number-preserved : goal.loop-number-preserved
loop-number-preserved c = record {
  count = one_owner c.args.table.now.owners c.loop-number.number c.of.result c.loop-number.count
      c.one_if-count.result c.owns.result c.of.ensures c.loop-number.invariant.count c.one_if-count.ensures.value
      (c.owns.ensures ∙ ap (list_any (is_of c.of.result)) c.ranges-in-loop-number.ensures);
  few = omega (arith, c.loop-number.invariant.few, c.one_if-count.ensures.most);
}
