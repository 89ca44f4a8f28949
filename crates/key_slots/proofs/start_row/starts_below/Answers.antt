use Rattle.std.proofs.Common.{rules, of_calls, subst, sym}
use Rattle.std.proofs.lemmas.Fn.{always_returns_same}
use Rattle.std.specs.List.Sorted.{IsPartitionedBy}
use Rattle.key_slots.proofs.Row.{is_partitioned, place_is, starts_before}
use Rattle.key_slots.proofs.start_row.starts_below.Goals as goal

pub returns-clause-place : goal.returns-clause-place
returns-clause-place c l r e below above =
    let s = c.args.number in
    let key = always_returns_same _ _ _ (λ a r f k. search (rules, of_calls)) in
    let point = c.partition_point.ensures.partitioned (starts_before s) key (subst (IsPartitionedBy (starts_before s)) (sym e) (is_partitioned s l r below above)) in
    place_is s l r c.partition_point.result below above (rw (← e) c.partition_point.ensures.bound) (rw e at point.0) (rw e at point.1)
