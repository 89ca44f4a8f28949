use Rattle.std.proofs.Common.{rules, ◌≡◌, ◌≤◌, ◌⊎◌, ℕ, min, arith, inl, inr}
use Rattle.std.proofs.lemmas.Bool.{cases_lt}
use Rattle.reshard_planner.proofs.Steps.{paired_all, paired_more}
use Rattle.reshard_planner.proofs.giving.transfers_between.Goals as goal

past : (m a b k : ℕ) → m ≡ min a b → m ≤ k → (a ≤ k) ⊎ (b ≤ k)
past m a b k e h = elim (cases_lt k a) [ inl u ↦ inr (omega arith) | inr u ↦ inl u ]

pub loop-place-preserved : goal.loop-place-preserved
loop-place-preserved c = paired_more c.loop-place.transfers.items _ c.args.slots_given.now c.args.targets.now
    c.loop-place.place c.index-slots_given-place.result c.index-slots_given-place-in-loop-place.result c.index-targets-place.result _
    (omega (arith, c.min-place-end.ensures)) (omega (arith, c.min-place-end.ensures)) c.index-slots_given-place.is
    c.index-slots_given-place-in-loop-place.is c.index-targets-place.is (search (rules, c.in_ok-push.ensures.items)) c.loop-place.invariant

pub returns : goal.returns
returns c = paired_all c.loop-place.transfers.items c.args.slots_given.now c.args.targets.now c.loop-place.place _
    (past c.min-place-end.result _ _ c.loop-place.place c.min-place-end.ensures c.loop-place-test.false) c.loop-place.invariant
