use Rattle.std.proofs.Common.{◌≡◌, ◌-◌, ◌≤◌, drop}
use Rattle.plan_runner.specs.Listings.{is_rising}
use Rattle.plan_runner.proofs.listed_keys.is_rising.Given as goal

abbrev pub invariant-loop-i : goal.invariant-loop-i
invariant-loop-i l = record {
  some : 1 ≤ l.i;
  same : is_rising l.fn.keys ≡ is_rising (drop (l.i - 1) l.fn.keys);
}
