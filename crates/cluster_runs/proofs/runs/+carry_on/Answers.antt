use Rattle.cluster_runs.proofs.Ended.{behind_next}
use Rattle.cluster_runs.proofs.runs.+carry_on.Goals as goal

pub returns-in_ok-end-in-Again : goal.returns-in_ok-end-in-Again
returns-in_ok-end-in-Again g t c =
    behind_next _ _ c.args.words.now c.args.lines.now c.args.ran c.in-Again.again c.in_ok-next.next
    c.in_ok-end-in-Again.end _ _ c.in-Again.is c.in_ok-next.ensures c.in_ok-end-in-Again.ensures
