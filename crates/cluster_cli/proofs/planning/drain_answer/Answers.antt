use Rattle.std.proofs.Common.{rules, ◌≡◌, ◌∙◌, ap, subst}
use Rattle.reshard_planner.specs.Answers.{Gives, drain_answer}
use Rattle.cluster_cli.specs.Planning.{SaysPlanned, outcome_of, drain_remark}
use Rattle.cluster_cli.proofs.Planned.{not_left}
use Rattle.cluster_cli.proofs.planning.drain_answer.Goals as goal

pub returns : goal.returns
returns g c =
    let o = c.in-Ok.found.0 in
    let wanted = drain_answer o c.as_slice.result.now c.as_slice-2.result.now c.args.words.now.batch in
    let gives : Gives o.nodes c.drain-planned.result wanted = c.drain-planned.ensures.exact in
    let says : SaysPlanned o.nodes c.in-Ok.found.1 wanted c.in_ok-answer.answer.status c.in_ok-answer.answer.printed.items
    = c.in_ok-answer.ensures.says o.nodes wanted gives in
    let outcome : c.outcome_of-outcome.result ≡ outcome_of wanted
    = not_left c.in_ok-answer.ensures.there (c.outcome_of-outcome.ensures o.nodes wanted gives) in
    let remark : c.in_ok-drain_remark.field-0.items ≡ drain_remark (outcome_of wanted)
    = c.in_ok-drain_remark.ensures ∙ ap drain_remark outcome in
    search (rules, says, remark)
