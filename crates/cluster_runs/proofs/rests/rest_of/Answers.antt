use Rattle.std.proofs.Common.{◌≡◌, ◌∙◌, [], arith, sym}
use Rattle.std.proofs.lemmas.Grind.{common_steps}
use Rattle.std.specs.Prelude.{vec_len}
use Rattle.cluster_runs.proofs.RestPlans.{at_servers, is_prepared_rest, nothing_left, opened_there, with_book}
use Rattle.cluster_runs.proofs.rests.rest_of.Goals as goal

pub returns-then-is_empty-clause-left : goal.returns-then-is_empty-clause-left
returns-then-is_empty-clause-left g c =
    let servers = c.args.servers in
    let none : c.lines.result.now ≡ [] = grind (arith, common_steps) in
    nothing_left servers.book servers.surveyed.survey servers.surveyed.epochs.items (vec_len servers.links) c.in_ok-survey.survey
    c.in_ok-plan.plan c.args.attempt.now.batch c.args.lines.now c.requires.found c.in_ok-survey.ensures.survey
    c.requires.numbered c.in_ok-plan.ensures.plan (sym c.lines.ensures.value ∙ none)

pub returns-clause-left : goal.returns-clause-left
returns-clause-left g c =
    let servers = c.args.servers in
    let r = c.in_ok-verified_over.field-0.0 in
    let ensures = c.in_ok-verified_over.ensures in (
      is_prepared_rest servers.book c.in_ok-survey.survey c.in_ok-plan.plan r c.args.attempt.now.batch c.args.lines.now
          (with_book servers r ensures.servers) (at_servers servers r ensures.servers c.requires.found)
          (opened_there servers r c.in_ok-survey.survey ensures.servers c.in_ok-survey.ensures.survey) c.requires.numbered
          c.in_ok-plan.ensures.plan ensures.legal ensures.runs ensures.survey ensures.moves,
      ensures.told,
    )
