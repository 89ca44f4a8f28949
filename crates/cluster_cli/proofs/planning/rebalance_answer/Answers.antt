use Rattle.std.proofs.Common.{rules, ◌≡◌, ◌∙◌, ap, subst}
use Rattle.reshard_planner.specs.Answers.{Gives}
use Rattle.cluster_cli.specs.Planning.{SaysPlanned, outcome_of, rebalance_answers, rebalance_remark}
use Rattle.cluster_cli.proofs.Planned.{not_left}
use Rattle.cluster_cli.proofs.planning.rebalance_answer.Goals as goal

pub returns : goal.returns
returns g c =
    let o = c.in-Ok.found.0 in
    let wanted = rebalance_answers c.args.words.now o c.as_slice.result.now in
    let gives : Gives o.nodes c.rebalance-planned.result wanted = c.rebalance-planned.ensures.exact in
    let says : SaysPlanned o.nodes c.in-Ok.found.1 wanted c.in_ok-answer.answer.status c.in_ok-answer.answer.printed.items
    = c.in_ok-answer.ensures.says o.nodes wanted gives in
    let outcome : c.outcome_of-outcome.result ≡ outcome_of wanted
    = not_left c.in_ok-answer.ensures.there (c.outcome_of-outcome.ensures o.nodes wanted gives) in
    let remark : c.in_ok-remark.remark.items
    ≡ rebalance_remark (outcome_of wanted) c.args.words.now.use_empty o
    = c.in_ok-remark.ensures ∙ ap (λ x. rebalance_remark x c.args.words.now.use_empty o) outcome in
    search (rules, says, remark)
