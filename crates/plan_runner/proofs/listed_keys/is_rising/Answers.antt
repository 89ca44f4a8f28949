use Rattle.std.proofs.Common.{◌≡◌, true, false, sym, ◌∙◌, subst₂, arith}
use Rattle.std.specs.Ordering.{is_lt}
use Rattle.cluster_admin.specs.Keys.{order}
use Rattle.plan_runner.proofs.Rising.{rising_on, rising_not}
use Rattle.plan_runner.proofs.listed_keys.is_rising.Goals as goal

pub returns-then-not-is_before : goal.returns-then-not-is_before
returns-then-not-is_before c = sym (c.loop-i.invariant.same ∙ rising_not c.args.keys.now c.index-keys-i.result c.index-keys-i-in-loop-i.result c.loop-i.i c.loop-i.invariant.some (omega arith)
    (subst₂ (λ a b. is_lt (order a b) ≡ false) c.index-keys-i.is c.index-keys-i-in-loop-i.is (sym c.is_before.ensures ∙ c.if-not-is_before.true)))

pub loop-i-preserved : goal.loop-i-preserved
loop-i-preserved c = record {
  some = omega arith;
  same = c.loop-i.invariant.same ∙ rising_on c.args.keys.now c.index-keys-i.result c.index-keys-i-in-loop-i.result c.loop-i.i c.loop-i.invariant.some (omega arith)
      (subst₂ (λ a b. is_lt (order a b) ≡ true) c.index-keys-i.is c.index-keys-i-in-loop-i.is (sym c.is_before.ensures ∙ c.if-not-is_before.false));
}
