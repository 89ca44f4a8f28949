use Rattle.std.proofs.Common.{◌≡◌, ℕ, ◌<◌, false}
use Rattle.std.specs.Prelude.{is_some}
use Rattle.cluster_admin.specs.Surveys.{migrating_at}
use Rattle.redis_servers.proofs.run_history.has_mark.Given as goal

abbrev pub invariant-loop-number : goal.invariant-loop-number
invariant-loop-number l = (s : ℕ) → s < l.number → is_some (migrating_at l.survey l.node s) ≡ false
