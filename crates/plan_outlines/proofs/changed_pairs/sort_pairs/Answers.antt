use Rattle.std.proofs.Common.{◌≡◌, length, drop, rules, of_calls, subst, sym}
use Rattle.std.proofs.lemmas.Fn.{always_returns_same}
use Rattle.std.proofs.lemmas.List.{take_at}
use Rattle.std.specs.List.Sorted.{IsSorted}
use Rattle.plan_outlines.specs.Pairs.{pair_cmp}
use Rattle.plan_outlines.proofs.changed_pairs.sort_pairs.Goals as goal

pub returns-clause-sorted : goal.returns-clause-sorted
returns-clause-sorted c =
    let new = c.sort_unstable_by_key.new.self in
    let key = always_returns_same _ _ _ (λ a r f k. search (rules, of_calls)) in
    let width : length new ≡ c.args.pairs.now.len = search rules in
    let sorted : IsSorted pair_cmp new = c.sort_unstable_by_key.ensures.sorted (λ p. (record { 0 = p.slots }, p.source, p.target)) key in
    subst (IsSorted pair_cmp) (sym (take_at new (drop (length new) c.args.pairs.now.items) c.args.pairs.now.len width)) sorted
