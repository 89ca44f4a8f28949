use Rattle.std.proofs.Common.{◌≡◌, ◌+◌, drop}
use Rattle.server_phases.specs.Resumed.{plan_count}
use Rattle.server_phases.proofs.resuming.count_of.Given as goal

-- the lines before were counted
abbrev pub invariant-loop-line : goal.invariant-loop-line
invariant-loop-line l = l.total + plan_count l.plan.names (drop l.line-index l.plan.lines) ≡ plan_count l.plan.names l.plan.lines
