use Rattle.std.proofs.Common.{◌∙◌}
use Rattle.cluster_inspection.proofs.Lines.{lines_put, lines_said}
use Rattle.cluster_inspection.proofs.survey.counted.Goals as goal

pub returns-in-Ok-clause-says : goal.returns-in-Ok-clause-says
returns-in-Ok-clause-says g c =
    lines_said c.whole_text.result c.args.masters.now c.args.left_out.now c.args.survey.now c.as_slice.result.now
    (lines_put _ c.args.survey.now c.new-more.result.items c.as_slice.result.now c.new.result
    c.put_phase_lines.new.counts c.new-more.ensures.items
    (λ phases shows. let h = c.in-Ok.ensures phases shows in (h.0, h.1, c.as_slice.ensures.value ∙ h.2)))
    c.whole_text.ensures.text c.whole_text.ensures.clean
