use Rattle.std.proofs.lemmas.Result.{IfOk-weaker}
use Rattle.slot_key_counts.specs.Tables.{told_in}
use Rattle.cluster_inspection.proofs.Same.{told_begins}
use Rattle.cluster_inspection.proofs.stranded.told_lines.Goals as goal

pub returns-in-Ok : goal.returns-in-Ok
returns-in-Ok g c = record {
  lines =
      IfOk-weaker c.lines_in.result _ _
      (λ lines has. (
        told_in c.in-Ok.table,
        has.0,
        told_begins (record { gave = g.I.ByteIn.gave; took = g.O.ByteOut.took }) c.args.survey.now
            c.in_ok-questions.questions c.nodes.result c.args.links.now.items c.ask_all.new.links.items
            (told_in c.in-Ok.table) c.in_ok-questions.ensures.whom c.in_ok-questions.ensures.asked c.nodes.ensures.value
            c.in-Ok.ensures.asked,
        has.1,
      ))
      c.lines_in.ensures.lines;
}
