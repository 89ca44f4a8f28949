use Rattle.std.proofs.Common.{subst}
use Rattle.slot_key_counts.specs.Rounds.{Told}
use Rattle.slot_key_counts.specs.Tables.{told_in}
use Rattle.cluster_inspection.specs.Stranded.{HasLines, tells}
use Rattle.cluster_inspection.proofs.StrandedLines.{stranded_put, told_of}
use Rattle.cluster_inspection.proofs.stranded.lines_in.Goals as goal

pub returns-in-Ok : goal.returns-in-Ok
returns-in-Ok c = record {
  lines =
      subst (λ (t : Told). HasLines t c.args.survey.now c.put_stranded_lines.new.out.items) (λ i. told_in (c.new-counts.ensures i))
      (stranded_put told_of _ tells (λ x n s k y h. h) c.args.survey.now c.new-lines.result.items
      c.put_stranded_lines.new.out.items c.new-counts.result c.put_stranded_lines.new.counts c.new-lines.ensures.items
      c.in-Ok.ensures);
}
