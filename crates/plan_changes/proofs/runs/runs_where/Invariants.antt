use Rattle.std.proofs.Common.{◌≡◌, drop, reverse}
use Rattle.plan_changes.specs.Runs.{runs_from}
use Rattle.plan_changes.proofs.runs.runs_where.Given as goal

abbrev pub invariant-loop-number : goal.invariant-loop-number
invariant-loop-number l = reverse l.later.items ≡ runs_from l.number (drop l.number l.marks)
