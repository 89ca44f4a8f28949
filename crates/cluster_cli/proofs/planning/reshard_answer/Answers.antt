use Rattle.std.proofs.Common.{rules, ◌≡◌, ◌∙◌, ap, subst}
use Rattle.reshard_planner.specs.Answers.{Gives, reshard_answer}
use Rattle.cluster_cli.specs.Planning.{SaysPlanned, outcome_of, reshard_answers, reshard_remark}
use Rattle.cluster_cli.proofs.Planned.{not_left}
use Rattle.cluster_cli.proofs.planning.reshard_answer.Goals as goal

pub returns : goal.returns
returns g c =
    let o = c.in-Ok.found.0 in
    let sources = c.as_slice-sources.result.now in
    let wanted = reshard_answers c.args.words.now o sources c.in-Some.target in
    let gives : Gives o.nodes c.reshard-planned.result wanted
    = subst (λ n. Gives o.nodes c.reshard-planned.result
    (reshard_answer o sources c.in-Some.target n c.args.words.now.batch)) c.slots_asked-count.ensures.count
    c.reshard-planned.ensures.exact in
    let says : SaysPlanned o.nodes c.in-Ok.found.1 wanted c.in_ok-answer.answer.status c.in_ok-answer.answer.printed.items
    = c.in_ok-answer.ensures.says o.nodes wanted gives in
    let outcome : c.outcome_of-outcome.result ≡ outcome_of wanted
    = not_left c.in_ok-answer.ensures.there (c.outcome_of-outcome.ensures o.nodes wanted gives) in
    let remark : c.in_ok-remark.remark.items ≡ reshard_remark (outcome_of wanted) sources o.owners
    = c.in_ok-remark.ensures ∙ ap (λ x. reshard_remark x sources o.owners) outcome in
    search (rules, says, remark)
