use Rattle.std.proofs.Common.{rules, ◌≡◌}
use Rattle.cluster_inspection.specs.Returning.{dead_ids}
use Rattle.cluster_inspection.specs.Starts.{names_listed}
use Rattle.cluster_runs.proofs.Settled.{away_after}
use Rattle.cluster_runs.proofs.resume.prepared_rest.Goals as goal

pub returns-clause-away : goal.returns-clause-away
returns-clause-away g c =
    let same : c.in-Some.plan ≡ c.in-Some.prepared.plan.plan = search rules in
    away_after _ (dead_ids c.args.words.now.run.dead_for_good) (names_listed c.args.lines.now) c.in-Some.prepared
    c.in_ok-prepared-2.prepared c.in-Some.plan same c.in_ok-prepared-2.ensures.same
    c.in_ok-prepared-2.ensures.left c.in_ok-check_returning.ensures.away
