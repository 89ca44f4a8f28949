use Rattle.cluster_admin.specs.Surveys.{phase_seen}
use Rattle.plan_semantics.specs.Surveyed.{node_count}
use Rattle.reshard_planner.specs.Resuming.{rest_of}
use Rattle.reshard_planner.proofs.Rests.{adds_same, on_ok_then, rest_same}
use Rattle.reshard_planner.proofs.resuming.close.Goals as goal

pub close_from-requires-clause-fine : goal.close_from-requires-clause-fine
close_from-requires-clause-fine c = c.in-Some.ensures.phase.fine

pub returns : goal.returns
returns c =
    on_ok_then c.close_from.result _ _ c.close_from.ensures (λ a p has.
    let seen = phase_seen c.args.survey.now c.args.slot c.in-Some.phase in
    adds_same c.args.plan.now c.close_from.new.plan (rest_of (node_count c.args.survey.now) c.args.slot c.args.batch seen)
    (rest_of (node_count c.args.survey.now) c.args.slot c.args.batch p)
    (rest_same c.args.survey.now c.args.slot c.args.batch seen p c.in-Some.ensures.phase has) a)
