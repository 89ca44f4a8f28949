use Rattle.std.proofs.Common.{◌≡◌, ◌≤◌, ◌+◌, ◌*◌, length, drop}
use Rattle.std.specs.List.{AllByRecursion}
use Rattle.plan_language.specs.Limits.{limits_of}
use Rattle.plan_language.specs.Lines.{count, plan_commands, IsLine}
use Rattle.plan_language.proofs.plan.Plan.expanded_len.Given as goal

-- the length so far, with that of the lines that are left, is the plan's
abbrev pub invariant-loop-line : goal.invariant-loop-line
invariant-loop-line l =
    (l.length + length (plan_commands l.nodes (drop l.line-index l.line-items)) ≡ length (plan_commands l.nodes l.line-items))
    × AllByRecursion IsLine (drop l.line-index l.line-items)
    × (l.length + 260 * count (limits_of l.self.names) (drop l.line-index l.line-items) ≤ 1099038720)
