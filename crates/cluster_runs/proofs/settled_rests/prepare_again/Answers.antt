use Rattle.std.proofs.Common.{rules, ◌≡◌}
use Rattle.cluster_inspection.specs.Returning.{dead_ids}
use Rattle.cluster_inspection.specs.Starts.{names_listed}
use Rattle.cluster_runs.proofs.Settled.{away_settled, settled_rest}
use Rattle.cluster_runs.proofs.settled_rests.prepare_again.Goals as goal

pub returns-in_ok-check_returning-in-Some-clause-settled : goal.returns-in_ok-check_returning-in-Some-clause-settled
returns-in_ok-check_returning-in-Some-clause-settled g c =
    let servers = c.in-Some.prepared.servers in
    settled_rest _ _ c.args.attempt.now servers.book servers.surveyed servers.links.items c.settled.result
    c.settled.ensures.settled c.settled.ensures.servers

pub returns-in_ok-check_returning-in-Some-clause-away : goal.returns-in_ok-check_returning-in-Some-clause-away
returns-in_ok-check_returning-in-Some-clause-away g c =
    let same : c.in-Some.plan ≡ c.in-Some.prepared.plan.plan = search rules in
    away_settled _ (dead_ids c.args.words.now.dead_for_good) (names_listed c.args.lines.now) c.in-Some.prepared
    c.in-Some.plan c.settled.result same c.settled.ensures.same c.settled.ensures.left
    c.in_ok-check_returning-in-Some.ensures.away
