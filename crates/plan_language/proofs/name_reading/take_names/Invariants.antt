use Rattle.std.proofs.Common.{◌≡◌, ℕ, ◌+◌, ◌≤◌, [], length}
use Rattle.plan_language.specs.Texts.{names_in, parts}
use Rattle.plan_language.proofs.name_reading.take_names.Given as goal

-- the nodes so far, and then the lines that are left
abbrev pub invariant-loop-line : goal.invariant-loop-line
invariant-loop-line l = record {
  whole : (v : ℕ) → names_in v 2 [] (parts 10 l.fn.text) ≡ names_in v l.number l.table (parts 10 l.rest);
  counted : l.number ≡ length l.table + 2;
  few : length l.table ≤ 255;
}

abbrev pub decreases-loop-line : goal.decreases-loop-line
decreases-loop-line l = length l.rest
