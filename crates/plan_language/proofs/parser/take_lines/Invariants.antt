use Rattle.std.proofs.Common.{◌≡◌, length}
use Rattle.plan_language.specs.Limits.{limits_of}
use Rattle.plan_language.specs.Lines.{count}
use Rattle.plan_language.specs.LinesLeft.{read_on, after}
use Rattle.plan_language.proofs.parser.take_lines.Given as goal

-- the plan so far, and then the lines that are left
abbrev pub invariant-loop-line : goal.invariant-loop-line
invariant-loop-line l = record {
  whole : read_on l.fn.lines ≡ after l.plan.lines (read_on l.lines);
  counted : count (limits_of l.plan.names) l.plan.lines ≡ l.lines.before;
  version : l.plan.version ≡ l.lines.version;
  names : l.plan.names ≡ l.lines.names;
  same_version : l.plan.version ≡ l.fn.plan.version;
  same_names : l.plan.names ≡ l.fn.plan.names;
}

abbrev pub decreases-loop-line : goal.decreases-loop-line
decreases-loop-line l = length l.lines.lines
