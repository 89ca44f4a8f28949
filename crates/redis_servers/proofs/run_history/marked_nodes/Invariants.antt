use Rattle.std.proofs.Common.{◌≡◌, length}
use Rattle.redis_servers.specs.RunHistories.{AreMarked}
use Rattle.redis_servers.proofs.run_history.marked_nodes.Given as goal

abbrev pub invariant-loop-number : goal.invariant-loop-number
invariant-loop-number l = (length l.marked.items ≡ length l.survey.rows) × AreMarked l.survey l.number l.marked.items
