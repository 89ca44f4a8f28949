use Rattle.std.proofs.Common.{◌≡◌, ◌+◌, ◌≤◌, length}
use Rattle.plan_language.specs.Lines.{others}
use Rattle.plan_language.specs.MovesLeft.{others_from}
use Rattle.plan_language.proofs.line_commands.others_len.Given as goal

abbrev pub invariant-loop-node : goal.invariant-loop-node
invariant-loop-node l = record {
  counted : l.count + length (others_from l.fn.nodes l.fn.source l.fn.target l.node)
      ≡ length (others l.fn.nodes l.fn.source l.fn.target);
  few : l.count ≤ l.node;
}
