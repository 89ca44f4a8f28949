use Rattle.std.proofs.Common.{length}
use Rattle.cluster_admin.specs.Surveys.{owner_at}
use Rattle.plan_language.specs.Lines.{plan_commands}
use Rattle.slot_key_counts.specs.Rounds.{talk}
use Rattle.slot_key_counts.specs.Tables.{told_in}
use Rattle.slot_key_counts.proofs.Wanted.{asked, filled, not_asked}
use Rattle.slot_key_counts.proofs.moved.key_counts.Goals as goal

pub returns-in-Ok-clause-counted : goal.returns-in-Ok-clause-counted
returns-in-Ok-clause-counted g c = (
  told_in c.in-Ok.table,
  asked (owner_at c.args.survey.now 0) c.in_ok-questions.questions
      (plan_commands (length c.args.survey.now.rows) c.args.plan.lines) c.in_ok-questions.ensures.asked
      (talk (record { gave = g.I.ByteIn.gave; took = g.O.ByteOut.took })) c.in_ok-questions.ensures.whom c.nodes.result
      (length c.args.survey.now.rows) c.nodes.ensures.value c.args.links.now.items (told_in c.in-Ok.table)
      c.ask_all.new.links.items c.in-Ok.ensures.asked,
  (
    c.fill.ensures.count,
    filled (owner_at c.args.survey.now 0) c.in_ok-questions.questions
        (plan_commands (length c.args.survey.now.rows) c.args.plan.lines) c.in_ok-questions.ensures.asked
        (told_in c.in-Ok.table) c.fill.new.counts.items c.fill.ensures.filled,
  ),
)

pub returns-in-Err-clause-counted : goal.returns-in-Err-clause-counted
returns-in-Err-clause-counted g c =
    not_asked (owner_at c.args.survey.now 0) c.in_ok-questions.questions
    (plan_commands (length c.args.survey.now.rows) c.args.plan.lines) c.in_ok-questions.ensures.asked
    (talk (record { gave = g.I.ByteIn.gave; took = g.O.ByteOut.took })) c.in_ok-questions.ensures.whom c.nodes.result
    (length c.args.survey.now.rows) c.nodes.ensures.value c.args.links.now.items c.in-Err.fault
    c.ask_all.new.links.items c.in-Err.ensures.asked
